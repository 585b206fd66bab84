-- Each answer of the calls on rights, exactly when. Assumes nothing.
use Prim.Native.Nat.{ℕ}
use mathlib.Core.Path.{◌≡◌, sym, ap, subst}
use lib.Dec.{ltb}
use borrow.Author.Tests.{lt-ltb, le-ltb, ltb-true, ltb-false}
use Rattle.std.specs.Prelude.{Ok}
use Rattle.hns_refusals.specs.Refusals.{Answer}
use Rattle.hns_encoding.proofs.Outcomes.{choose_holds}
use Rattle.hns_p2p_rights.specs.Terms.{Terms, own_mask}
use Rattle.hns_p2p_rights.specs.Rights.{granted, may_send, types_granted}
use Rattle.hns_p2p_rights.specs.Claims.{SendingIs, if_no_role, if_not_granted, if_may_send, CountIs, no_count, types, Conditions}
use Rattle.hns_p2p_rights.proofs.Masks.{ones_are_types}

-- the answer meets its condition
pub sending_is : (u : Terms) (t : ℕ) → SendingIs u t (may_send u t)
unfolding may_send
sending_is u t =
    choose_holds (SendingIs u t) (ltb u.role 8)
    (λ e. let h = ltb-true u.role 8 e in
    choose_holds (SendingIs u t) (granted (own_mask u) t) (λ g. if_may_send (record { a_role = h; a_grant = g })) (λ g. if_not_granted h g))
    (λ e. if_no_role (ltb-false u.role 8 e))

-- and no other answer does
pub sending_only : {u : Terms} {t : ℕ} {a : Answer (Unit {0})} → SendingIs u t a → a ≡ may_send u t
unfolding may_send
sending_only {u} (if_no_role h) = rw (le-ltb u.role 8 h)
sending_only {u} (if_not_granted h g) = rw (lt-ltb u.role 8 h, g)
sending_only {u} (if_may_send m) = rw (lt-ltb u.role 8 m.a_role, m.a_grant)

count_is : (u : Terms) → CountIs u (types_granted u)
unfolding types_granted
count_is u =
    choose_holds (CountIs u) (ltb u.role 8)
    (λ e. subst (λ (n : ℕ). CountIs u (Ok n)) (ones_are_types (own_mask u)) (types (ltb-true u.role 8 e)))
    (λ e. no_count (ltb-false u.role 8 e))

pub count_only : {u : Terms} {a : Answer ℕ} → CountIs u a → a ≡ types_granted u
unfolding types_granted
count_only {u} (no_count h) = rw (le-ltb u.role 8 h)
count_only {u} (types h) = rw (lt-ltb u.role 8 h) (ap Ok (ones_are_types (own_mask u)))

pub conditions : Conditions
conditions =
    record {
      sending = λ u t a. (sending_only, λ e. subst (SendingIs u t) (sym e) (sending_is u t));
      counting = λ u a. (count_only, λ e. subst (CountIs u) (sym e) (count_is u));
    }
