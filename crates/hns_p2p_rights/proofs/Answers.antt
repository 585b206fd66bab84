-- What the calls on rights answer, by the mask that they found. Assumes nothing.
use Prim.Native.Nat.{ℕ}
use mathlib.Core.Path.{◌≡◌, sym, ap, ◌∙◌}
use mathlib.Core.Bool.{Bool, true, false}
use lib.Bits.{bit_and, and_mask}
use lib.Count.{ones}
use lib.Dec.{ltb}
use Rattle.std.specs.Prelude.{Result, Ok, Err}
use Rattle.hns_refusals.specs.declared.Refusal.{Refusal}
use Rattle.hns_refusals.specs.Refusals.{Answer, no_role, not_granted}
use Rattle.hns_encoding.specs.Bytes.{choose}
use Rattle.hns_p2p_rights.specs.Terms.{Terms, own_mask, full_mask}
use Rattle.hns_p2p_rights.specs.Rights.{granted, count_below, may_send, types_granted}
use Rattle.hns_p2p_rights.specs.Helpers.{own}
use Rattle.hns_p2p_rights.proofs.Masks.{ones_are_types}

-- what goes on with the mask, if there is a role
after_own : {A : Type 0} (b : Bool) (m : ℕ) (k : ℕ → Answer A) {r : Refusal} → choose b (Ok m) (Err no_role) ≡ Err r → Err r ≡ choose b (k m) (Err no_role)
after_own true m k e = cc
after_own false m k e = cc

on_own : {A : Type 0} (b : Bool) (m : ℕ) (k : ℕ → Answer A) {n : ℕ} → choose b (Ok m) (Err no_role) ≡ Ok n → k n ≡ choose b (k m) (Err no_role)
on_own true m k {n} e = let same : m ≡ n = cc in ap k (sym same)
on_own false m k e = cc

module _ (u : Terms) {found : Result ℕ Refusal} (e : found ≡ own u) where
  -- a refusal is handed on
  module _ {r : Refusal} (g : found ≡ Err r) where
    pub sends_none : (t : ℕ) → Err r ≡ may_send u t
    unfolding own may_send
    sends_none t = after_own (ltb u.role 8) (own_mask u) (λ m. choose (granted m t) (Ok tt) (Err not_granted)) (sym e ∙ g)

    pub counts_none : Err r ≡ types_granted u
    unfolding own types_granted
    counts_none = after_own (ltb u.role 8) (own_mask u) (λ m. Ok (count_below 31 (granted m))) (sym e ∙ g)

  module _ {m : ℕ} (g : found ≡ Ok m) where
    sends : (t : ℕ) → choose (granted m t) (Ok tt) (Err not_granted) ≡ may_send u t
    unfolding own may_send
    sends t = on_own (ltb u.role 8) (own_mask u) (λ m. choose (granted m t) (Ok tt) (Err not_granted)) (sym e ∙ g)

    pub sends_granted : (t : ℕ) → granted m t ≡ true → Ok tt ≡ may_send u t
    sends_granted t h = sym (rw h) ∙ sends t

    pub sends_not : (t : ℕ) → granted m t ≡ false → Err not_granted ≡ may_send u t
    sends_not t h = rw h at (sends t)

    pub counts : Ok (ones (bit_and m full_mask)) ≡ types_granted u
    unfolding own types_granted
    counts = ap (λ (k : ℕ). Ok (ones k)) (and_mask m 31) ∙ ap Ok (ones_are_types m) ∙ on_own (ltb u.role 8) (own_mask u) (λ m. Ok (count_below 31 (granted m))) (sym e ∙ g)
