-- Document 01, 'The packet', type 24: an index list as far as it is passed.
use Rattle.std.specs.Prelude.{ℕ, List, [], ◌∷◌, Ok, Err}
use Rattle.hns_refusals.specs.Refusals.{Answer}
use Rattle.hns_encoding.specs.Bytes.{Outcome, got, stop}
use Rattle.hns_p2p_differences.specs.declared.Passed.{Passed}

-- the last of indexes, or the number before them
abbrev pub last_of : ℕ → List ℕ → ℕ
last_of before [] = before
last_of before (i ∷ is) = last_of i is

-- the place after an index list, and its last index: 0 where it has none
unfoldable pub passed_of : Outcome (List ℕ) → Answer Passed
passed_of (got is next) = Ok (record { next = next; last = last_of 0 is })
passed_of (stop r) = Err r
