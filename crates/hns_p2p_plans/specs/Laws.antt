-- What is proved of the tests: what none of them refuses can be written, and what can be written none of them refuses.
use Rattle.std.specs.Prelude.{ℕ, ◌≡◌, List, Ok}
use Rattle.hns_encoding.specs.Format.{text, indexes, Fit}
use Rattle.hns_p2p_plans.specs.Tests.{text_tests, index_tests}

-- `indexes_fit` and `indexes_pass`, proofs/Indexes.antt
abbrev pub IndexesFit : Type 0
IndexesFit = (is : List ℕ) → index_tests is ≡ Ok tt → Fit indexes is

abbrev pub IndexesPass : Type 0
IndexesPass = (is : List ℕ) → Fit indexes is → index_tests is ≡ Ok tt

-- `text_fit` and `text_pass`, proofs/Texts.antt
abbrev pub TextFit : Type 0
TextFit = (field : ℕ) (s : List ℕ) → text_tests field s ≡ Ok tt → Fit (text field) s

abbrev pub TextPass : Type 0
TextPass = (field : ℕ) (s : List ℕ) → Fit (text field) s → text_tests field s ≡ Ok tt
