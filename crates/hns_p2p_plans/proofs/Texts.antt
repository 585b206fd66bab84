-- The tests of texts and of a reject. Assumes nothing.
use Prim.Native.Nat.{ℕ, zero, suc, ◌≤◌, ◌<◌}
use mathlib.Core.Path.{◌≡◌, refl, sym, ◌∙◌}
use mathlib.Core.List.{List, [], ◌∷◌}
use mathlib.Core.Bool.{Bool, true, false, ◌&&◌, beq}
use native.Mathlib.Omega.{arith}
use lib.ListN.{length, get_or}
use lib.Dec.{leb}
use borrow.Author.Tests.{le-leb, lt-leb, leb-true}
use Rattle.std.specs.Bool.{MatchBool}
use Rattle.std.specs.Str.{IsAscii, IsNotAscii}
use Rattle.std.specs.Prelude.{Ok, Err}
use Rattle.hns_encoding.specs.Bytes.{choose}
use Rattle.hns_encoding.specs.Format.{All}
use Rattle.hns_p2p_types.specs.Protocol.{carries_hash}
use Rattle.hns_refusals.specs.declared.Refusal.{Refusal}
use Rattle.hns_refusals.specs.Refusals.{Answer, not_ascii, hash_presence}
use Rattle.hns_refusals.specs.Checks.{first}
use Rattle.hns_p2p_plans.specs.Laws.{TextFit, TextPass}
use Rattle.hns_p2p_plans.specs.Tests.{within, ascii, text_tests, hash_test, reject_tests, plan_of, planned}
use Rattle.hns_p2p_plans.proofs.Tests.{choose_passed, first_passed, within_passed, within_limit, passed_by}

-- ---- the tests

both : (a b : Bool) → (a && b) ≡ true → (a ≡ true) × (b ≡ true)
both true b e = (refl, e)
both false b e = (e, cc)

ascii_all : (s : List ℕ) → ascii s ≡ true → All (λ b. b < 128) s
unfolding ascii
ascii_all [] e = tt
ascii_all (b ∷ s) e =
    let h = both (leb b 127) (ascii s) e in
    (omega (arith, leb-true b 127 h.0), ascii_all s h.1)

-- a text that no test refuses can be written
pub text_fit : TextFit
unfolding text_tests
text_fit field s e =
    let a = first_passed (within (length s) 255 field) _ e in
    (within_passed (length s) 255 field a.0, ascii_all s (choose_passed (ascii s) (Ok tt) _ a.1).0)

all_ascii : (s : List ℕ) → All (λ b. b < 128) s → ascii s ≡ true
unfolding ascii
all_ascii [] h = refl
all_ascii (b ∷ s) h = let low : b ≤ 127 = omega (arith, h.0) in rw (le-leb _ _ low) (all_ascii s h.1)

tests_left : (field : ℕ) (s : List ℕ) → length s ≤ 255 → text_tests field s ≡ choose (ascii s) (Ok tt) (Err (not_ascii field))
unfolding text_tests first
tests_left field s few = rw (← within_limit (length s) 255 field few)

pub text_pass : TextPass
text_pass field s fit = rw (tests_left field s fit.0, all_ascii s fit.1)

-- what the code's tests say of a text: it is too long, or it has a byte over 127, or neither
ascii_low : (s : List ℕ) → IsAscii s → ascii s ≡ true
unfolding ascii
ascii_low [] low = refl
ascii_low (b ∷ s) low = let here : b ≤ 127 = omega (arith, low 0) in rw (le-leb _ _ here) (ascii_low s (λ i. low (suc i)))

ascii_high : (s : List ℕ) (i : ℕ) → 128 ≤ get_or s i 0 → ascii s ≡ false
unfolding ascii
ascii_high [] i h = absurd (omega arith)
ascii_high (b ∷ s) zero h = rw (lt-leb b 127 (omega arith))
ascii_high (b ∷ s) (suc i) h = rw (ascii_high s i h) (never (leb b 127))
  where
    never : (a : Bool) → (a && false) ≡ false
    never true = refl
    never false = refl

module _ (field : ℕ) (s : List ℕ) {told : Answer (Unit {0})} (e : told ≡ within (length s) 255 field) where
  pub text_long : {r : Refusal} → told ≡ Err r → Err r ≡ text_tests field s
  unfolding text_tests first
  text_long q = rw (← e, q)

  module _ (q : told ≡ Ok tt) where
    few : length s ≤ 255
    few = within_passed (length s) 255 field (sym e ∙ q)

    pub text_low : {low : Bool} → MatchBool low (IsAscii s) (IsNotAscii s) → low ≡ true → Ok tt ≡ text_tests field s
    text_low cases is = rw (tests_left field s few, ascii_low s (rw is at cases))

    pub text_high : {low : Bool} → MatchBool low (IsAscii s) (IsNotAscii s) → low ≡ false → Err (not_ascii field) ≡ text_tests field s
    text_high cases is = let high = rw is at cases in rw (tests_left field s few, ascii_high s high.0 high.1)

-- a hash is there where the type carries one
pub same_hash : (a b : Bool) → beq a b ≡ true → Ok tt ≡ hash_test a b
unfolding hash_test
same_hash true true e = refl
same_hash true false e = cc
same_hash false true e = cc
same_hash false false e = refl

pub other_hash : (a b : Bool) → beq a b ≡ false → Err hash_presence ≡ hash_test a b
unfolding hash_test
other_hash true true e = cc
other_hash true false e = refl
other_hash false true e = refl
other_hash false false e = cc

-- a reject by the code's tests of it
module _ (t : ℕ) (reason : List ℕ) (present : Bool) (n there : ℕ) {told : Answer (Unit {0})} (e : told ≡ text_tests 8 reason) where
  pub reject_text : {r : Refusal} → told ≡ Err r → Err r ≡ planned (reject_tests t reason present) n there
  unfolding reject_tests planned plan_of first
  reject_text q = rw (← e, q)

  module _ (q : told ≡ Ok tt) {b : Bool} (c : b ≡ carries_hash t) {hash : Answer (Unit {0})} (d : hash ≡ hash_test b present) where
    pub reject_hash : {r : Refusal} → hash ≡ Err r → Err r ≡ planned (reject_tests t reason present) n there
    unfolding reject_tests planned plan_of first
    reject_hash r = rw (← e, q, ← c, ← d, r)

    pub reject_planned : hash ≡ Ok tt → {m : ℕ} {plan : Answer ℕ} → plan ≡ planned (Ok tt) m there → m ≡ n → plan ≡ planned (reject_tests t reason present) n there
    unfolding reject_tests first
    reject_planned r p same = passed_by (reject_tests t reason present) n there refl (rw (← e, q, ← c, ← d) r) p same

pub reject_short : (t : ℕ) (reason : List ℕ) (present : Bool) → reject_tests t reason present ≡ Ok tt → length reason ≤ 255
unfolding reject_tests
reject_short t reason present e = (text_fit 8 reason (first_passed (text_tests 8 reason) _ e).0).0
