-- The tests of a writer and its plan: when each passes and refuses. Assumes nothing.
use Prim.Native.Nat.{ℕ, ◌*◌, ◌≤◌, ◌<◌}
use mathlib.Core.Path.{◌≡◌, refl, sym, ◌∙◌}
use native.Mathlib.Omega.{arith}
use native.Mathlib.Nat.{mul-le-mul_right}
use lib.Dec.{leb}
use mathlib.Core.Bool.{Bool, true, false}
use borrow.Author.Tests.{le-leb, lt-leb, leb-true}
use Rattle.std.specs.Prelude.{Ok, Err}
use Rattle.hns_encoding.specs.Bytes.{choose}
use Rattle.hns_refusals.specs.declared.Refusal.{Refusal}
use Rattle.hns_refusals.specs.Refusals.{Answer, payload_too_large, output_short, over_limit}
use Rattle.hns_refusals.specs.Checks.{first}
use Rattle.hns_p2p_plans.specs.Tests.{within, room, plan_of, planned}

-- ---- the tests

pub within_limit : (n limit field : ℕ) → n ≤ limit → Ok tt ≡ within n limit field
unfolding within
within_limit n limit field h = simp (le-leb _ _ h)

pub over : (n limit field : ℕ) → limit < n → Err (over_limit n limit field) ≡ within n limit field
unfolding within
over n limit field h = simp (lt-leb _ _ h)

module _ (n there : ℕ) where
  pub too_large : 8000000 < n → Err (payload_too_large n) ≡ planned (Ok tt) n there
  unfolding planned plan_of first room
  too_large h = rw (lt-leb _ _ h)

  pub too_short : n ≤ 8000000 → there < n → Err (output_short n) ≡ planned (Ok tt) n there
  unfolding planned plan_of first room
  too_short h k = rw (le-leb _ _ h, lt-leb _ _ k)

  pub has_room : n ≤ 8000000 → n ≤ there → Ok n ≡ planned (Ok tt) n there
  unfolding planned plan_of first room
  has_room h k = rw (le-leb _ _ h, le-leb _ _ k)

-- ---- a plan: the writer's own tests, and then the room

module _ (tests : Answer (Unit {0})) (n there : ℕ) {told : Answer (Unit {0})} (e : told ≡ tests) where
  pub refused_by : {r : Refusal} → told ≡ Err r → Err r ≡ planned tests n there
  unfolding planned plan_of first
  refused_by q = rw (← e, q)

  pub passed_by : told ≡ Ok tt → {m : ℕ} {plan : Answer ℕ} → plan ≡ planned (Ok tt) m there → m ≡ n → plan ≡ planned tests n there
  passed_by q p same = rw (← e, q, ← same) p

pub plan_of_write : (k : Answer (Unit {0})) (n : ℕ) {m : ℕ} → plan_of k n ≡ Ok m → (k ≡ Ok tt) × (m ≡ n)
unfolding plan_of
plan_of_write (Ok u) n e = (refl, cc)
plan_of_write (Err r) n e = cc

pub plan_of_refused : (k : Answer (Unit {0})) (n : ℕ) {r : Refusal} → plan_of k n ≡ Err r → k ≡ Err r
unfolding plan_of
plan_of_refused (Ok u) n e = cc
plan_of_refused (Err r) n e = cc

pub first_passed : (a b : Answer (Unit {0})) → first a b ≡ Ok tt → (a ≡ Ok tt) × (b ≡ Ok tt)
unfolding first
first_passed (Ok u) b e = (refl, e)
first_passed (Err r) b e = cc

-- what a plan that the code made says of its tests
pub plan_passed : (tests : Answer (Unit {0})) (n there : ℕ) {plan : Answer ℕ} {m : ℕ} → plan ≡ planned tests n there → plan ≡ Ok m → tests ≡ Ok tt
unfolding planned
plan_passed tests n there e q = (first_passed tests _ (plan_of_write _ n (sym e ∙ q)).0).0

-- ---- tests that passed

pub choose_passed : (b : Bool) (k : Answer (Unit {0})) (r : Refusal) → choose b k (Err r) ≡ Ok tt → (b ≡ true) × (k ≡ Ok tt)
choose_passed true k r e = (refl, e)
choose_passed false k r e = cc

pub within_passed : (n limit field : ℕ) → within n limit field ≡ Ok tt → n ≤ limit
unfolding within
within_passed n limit field e = leb-true n limit (choose_passed (leb n limit) (Ok tt) _ e).0

pub few_items : (count width limit field : ℕ) {told : Answer (Unit {0})} → told ≡ within count limit field → told ≡ Ok tt → limit * width ≤ 1000000000 → count * width ≤ 1000000000
few_items count width limit field e q h = omega (arith, mul-le-mul_right width (within_passed count limit field (sym e ∙ q)))
