-- The tests of an index list: what a turn of the loop says of the list, and that what no test refuses can be written. Assumes nothing.
use Prim.Native.Nat.{ℕ, ◌+◌, ◌-◌, ◌*◌, ◌≤◌, ◌<◌}
use mathlib.Core.Path.{◌≡◌, refl, sym, ap, ap₂, ◌∙◌}
use mathlib.Core.List.{List, [], ◌∷◌, ◌++◌}
use native.Mathlib.Omega.{arith}
use lib.ListN.{length, get_or, drop, length-append, drop_of_length-le}
use lib.Dec.{leb}
use borrow.Author.Tests.{le-leb, lt-leb, leb-true}
use Rattle.std.specs.Prelude.{Ok, Err}
use Rattle.hns_refusals.specs.declared.Refusal.{Refusal}
use Rattle.hns_refusals.specs.Refusals.{Answer, too_many_indexes, index_too_large, not_rising}
use Rattle.hns_encoding.specs.Bytes.{choose}
use Rattle.hns_encoding.specs.Compact.{compact_bytes}
use Rattle.hns_encoding.specs.Format.{differences, Rising}
use Rattle.hns_encoding.proofs.Forward.{drop_next}
use Rattle.hns_p2p_plans.proofs.Compacts.{compact_most}
use Rattle.hns_p2p_plans.proofs.Tests.{choose_passed, first_passed, plan_of_write, plan_of_refused, refused_by, passed_by}
use Rattle.hns_refusals.specs.Checks.{first}
use Rattle.hns_p2p_plans.specs.Tests.{plan_of, planned, rising, few_indexes, index_tests}
use Rattle.hns_p2p_plans.specs.Laws.{IndexesFit, IndexesPass}

-- ---- the tests

rising_rises : (place base : ℕ) (is : List ℕ) → rising place base is ≡ Ok tt → Rising base is
unfolding rising
rising_rises place base [] e = tt
rising_rises place base (i ∷ is) e =
    let a = choose_passed (leb i 65535) _ _ e in
    let b = choose_passed (leb base i) _ _ a.1 in
    (leb-true base i b.0, leb-true i 65535 a.0, rising_rises (place + 1) (i + 1) is b.1)

pub indexes_fit : IndexesFit
unfolding index_tests few_indexes
indexes_fit is e =
    let a = first_passed (few_indexes (length is)) (rising 0 0 is) e in
    let b = choose_passed (leb (length is) 16662) (Ok tt) _ a.0 in
    (leb-true (length is) 16662 b.0, rising_rises 0 0 is a.1)

rises_rising : (place base : ℕ) (is : List ℕ) → Rising base is → rising place base is ≡ Ok tt
unfolding rising
rises_rising place base [] r = refl
rises_rising place base (i ∷ is) r = rw (le-leb _ _ r.1, le-leb _ _ r.0) (rises_rising (place + 1) (i + 1) is r.2)

pub indexes_pass : IndexesPass
unfolding index_tests few_indexes first
indexes_pass is fit = rw (le-leb _ _ fit.0) (rises_rising 0 0 is fit.1)

-- ---- the first pass: how far the list was tested, and the length so far

pub record Tested (s : List ℕ) (base size i : ℕ) : Type 0 where
  pub few : length s ≤ 16662
  pub small : size ≤ 9 * i
  pub rest : rising i base (drop i s) ≡ rising 0 0 s
  pub sum : size + length (differences base (drop i s)) ≡ length (differences 0 s)

pub too_many : (s : List ℕ) → 16662 < length s → Err (too_many_indexes (length s)) ≡ plan_of (index_tests s) (length (differences 0 s))
unfolding index_tests few_indexes first plan_of
too_many s h = rw (lt-leb _ _ h)

few_tests : (s : List ℕ) → length s ≤ 16662 → index_tests s ≡ rising 0 0 s
unfolding index_tests few_indexes first
few_tests s few = rw (le-leb _ _ few)

next_tested : (s : List ℕ) (base i : ℕ) → i < length s → rising i base (drop i s) ≡ choose (leb (get_or s i 0) 65535) (choose (leb base (get_or s i 0)) (rising (i + 1) (get_or s i 0 + 1) (drop (i + 1) s)) (Err (not_rising i))) (Err (index_too_large i))
unfolding rising
next_tested s base i h = rw (drop_next s i h)

-- what the code refuses here, in the parts of `Tested` that it needs, so that a search finds them
module _ (s : List ℕ) (base i : ℕ) (few : length s ≤ 16662) (rest : rising i base (drop i s) ≡ rising 0 0 s) where
  module _ (h : i < length s) where
    pub large : 65535 < get_or s i 0 → Err (index_too_large i) ≡ plan_of (index_tests s) (length (differences 0 s))
    unfolding plan_of
    large k = rw (few_tests s few, ← rest, next_tested s base i h, lt-leb _ _ k)

    pub falls : get_or s i 0 ≤ 65535 → get_or s i 0 < base → Err (not_rising i) ≡ plan_of (index_tests s) (length (differences 0 s))
    unfolding plan_of
    falls small k = rw (few_tests s few, ← rest, next_tested s base i h, le-leb _ _ small, lt-leb _ _ k)

pub tested_all : {s : List ℕ} {base size i : ℕ} → Tested s base size i → length s ≤ i → Ok size ≡ plan_of (index_tests s) (length (differences 0 s))
unfolding plan_of rising
tested_all {s} {base} {size} {i} t h =
    let none : drop i s ≡ [] = drop_of_length-le s {i = i} h in
    let passed : Ok tt ≡ rising 0 0 s = rw none at t.rest in
    let all : size ≡ length (differences 0 s) = omega (arith, rw none at t.sum) in
    rw (few_tests s t.few, ← passed) (ap Ok all)

pub tested_more : {s : List ℕ} {base size i : ℕ} → Tested s base size i → i < length s → get_or s i 0 ≤ 65535 → base ≤ get_or s i 0 → {n : ℕ} → n ≡ length (compact_bytes (get_or s i 0 - base)) → n ≤ 9
    → Tested s (get_or s i 0 + 1) (size + n) (i + 1)
tested_more {s} {base} {size} {i} t h small k e l =
    let parts : differences base (drop i s) ≡ compact_bytes (get_or s i 0 - base) ++ differences (get_or s i 0 + 1) (drop (i + 1) s) = rw (drop_next s i h) in
    record {
      few = t.few;
      small = omega (arith, t.small);
      rest = sym (next_tested s base i h ∙ rw (le-leb _ _ small, le-leb _ _ k)) ∙ t.rest;
      sum = omega (arith, t.sum, ap length parts, length-append (compact_bytes (get_or s i 0 - base)) (differences (get_or s i 0 + 1) (drop (i + 1) s)));
    }

-- ---- the payload

differences_most : (base : ℕ) (is : List ℕ) → length (differences base is) ≤ 9 * length is
differences_most base [] = omega arith
differences_most base (i ∷ is) =
    omega (arith, length-append (compact_bytes (i - base)) (differences (i + 1) is), compact_most (i - base), differences_most (i + 1) is)

-- what the code has counted: the tests refuse, or they pass and the length is that of the differences, which is small
module _ (is : List ℕ) {told : Answer ℕ} (e : told ≡ plan_of (index_tests is) (length (differences 0 is))) where
  pub size_refused : (n there : ℕ) {r : Refusal} → told ≡ Err r → Err r ≡ planned (index_tests is) n there
  size_refused n there q = refused_by (index_tests is) n there refl (plan_of_refused (index_tests is) _ (sym e ∙ q))

  module _ {size : ℕ} (q : told ≡ Ok size) where
    passed : (index_tests is ≡ Ok tt) × (size ≡ length (differences 0 is))
    passed = plan_of_write (index_tests is) _ (sym e ∙ q)

    pub size_small : size ≤ 149958
    size_small = omega (arith, passed.1, differences_most 0 is, (indexes_fit is passed.0).0)

    pub size_planned : (n there : ℕ) {m : ℕ} {plan : Answer ℕ} → plan ≡ planned (Ok tt) (32 + m + size) there → m ≡ n → plan ≡ planned (index_tests is) (32 + n + length (differences 0 is)) there
    size_planned n there p same = passed_by (index_tests is) _ there refl passed.0 p (ap₂ (λ (a b : ℕ). 32 + a + b) same passed.1)
