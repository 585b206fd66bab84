-- Packet types and inventory kinds, there and back. Assumes nothing.
use Prim.Native.Nat.{ℕ, zero, suc, ◌+◌, ◌≤◌}
use mathlib.Core.Path.{◌≡◌, refl, sym, ◌∙◌}
use mathlib.Core.List.{List, [], ◌∷◌}
use native.Mathlib.Omega.{arith}
use lib.ListN.{get_or, get_or-eq_default}
use Rattle.hns_p2p_types.specs.declared.PacketType.TheVariants as T
use Rattle.hns_p2p_types.specs.declared.InventoryKind.TheVariants as K
use Rattle.hns_p2p_types.specs.Types.{types, type_of, type_number, kinds, kind_of, kind_number, TypesBack, KindsBack}
use Rattle.hns_p2p_types.specs.Packets.{◌&◌}

pub type_past : (t : ℕ) → 30 ≤ t → T.Unknown t ≡ type_of t
unfolding type_of types
type_past t h = sym (get_or-eq_default types (T.Unknown t) h)

-- entries that have the numbers from n on, in order
abbrev Numbered : {A : Type 0} → (A → ℕ) → ℕ → List A → Type 0
Numbered number n [] = Unit {0}
Numbered number n (a ∷ l) = (number a ≡ n) × Numbered number (suc n) l

back : {A : Type 0} (number : A → ℕ) (n : ℕ) (l : List A) → Numbered number n l → (d : A) (t : ℕ) → number d ≡ n + t → number (get_or l t d) ≡ n + t
back number n [] h d t e = e
back number n (a ∷ l) h d zero e = h.0 ∙ omega arith
back number n (a ∷ l) h d (suc t) e =
    let next : n + suc t ≡ suc n + t = omega arith in
    rw next (back number (suc n) l h.1 d t (e ∙ next))

pub types_back : TypesBack
unfolding type_of types type_number
types_back t =
    back type_number 0 types
    (refl & refl & refl & refl & refl & refl & refl & refl & refl & refl & refl & refl & refl & refl & refl & refl & refl & refl & refl & refl & refl & refl & refl & refl & refl & refl & refl & refl & refl & refl & tt)
    (T.Unknown t) t (omega arith)
    ∙ omega arith

pub kinds_back : KindsBack
unfolding kind_of kinds kind_number
kinds_back k = back kind_number 0 kinds (refl & refl & refl & refl & refl & refl & refl & tt) (K.Unknown k) k (omega arith) ∙ omega arith
