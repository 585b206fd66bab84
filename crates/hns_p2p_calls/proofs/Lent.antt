-- What the lent numbers do to all calls. Assumes nothing.
use Prim.Native.Nat.{ℕ, ◌^◌, ◌<◌}
use mathlib.Core.Path.{◌≡◌, sym, ap, ◌∙◌}
use mathlib.Core.List.{List, [], ◌∷◌}
use mathlib.Core.Bool.{Bool, true, false}
use native.Mathlib.Omega.{arith}
use native.Mathlib.Nat.{zero-div}
use lib.ListN.{length}
use borrow.Author.Tests.{lt-leb}
use Rattle.std.specs.Prelude.{Ok}
use Rattle.hns_p2p_rights.specs.Terms.{Terms, own_mask, terms_of}
use Rattle.hns_p2p_rights.specs.Rights.{bit, bit_of, granted, may_send}
use Rattle.hns_p2p_rights.specs.Claims.{MaySend, SendingIs, if_may_send}
use Rattle.hns_p2p_rights.proofs.Masks.{full, other_mask, granting_lent}
use Rattle.hns_p2p_rights.proofs.Conditions.{conditions}
use Rattle.hns_p2p_calls.specs.Calls.{LentNumbers, calls_under}
use Rattle.hns_p2p_calls.proofs.Calls.{calls}

-- a mask of zero grants nothing
grants_nothing : (t : ℕ) → granted 0 t ≡ false
unfolding granted bit
grants_nothing t = rw (zero-div (2 ^ bit_of t))

sent : {u : Terms} {t : ℕ} → SendingIs u t (Ok tt) → MaySend u t
sent (if_may_send m) = m

no_own_mask : (role : ℕ) (masks : List ℕ) → length masks < 8 → own_mask (terms_of (role ∷ masks)) ≡ 0
unfolding terms_of
no_own_mask role masks h = rw (lt-leb 8 (length masks) h)

cut_off : (role : ℕ) (masks : List ℕ) → length masks < 8 → (t : ℕ) → may_send (terms_of (role ∷ masks)) t ≡ Ok tt → ⊥
cut_off role masks h t e =
    let u = terms_of (role ∷ masks) in
    let g = (sent ((conditions.sending u t (Ok tt)).1 (sym e))).a_grant in
    let z : ◌≡◌ {A = Bool} false true = sym (grants_nothing t) ∙ (ap (λ (m : ℕ). granted m t) (sym (no_own_mask role masks h)) ∙ g) in
    let no : ◌≡◌ {A = ℕ} 0 1 = cc in
    absurd (omega arith)

pub lent : LentNumbers
lent =
    record {
      none = calls.full (terms_of []) full.no_numbers;
      other_mask = λ role k x masks d. calls.by_own_mask _ _ (other_mask role k x masks d);
      granted_more = λ role k bits masks t s e.
          ap (λ (u : Terms). calls_under u t s) (granting_lent role k bits masks) ∙ calls.granted_more (terms_of (role ∷ masks)) k bits t s e;
      cut = cut_off;
    }
