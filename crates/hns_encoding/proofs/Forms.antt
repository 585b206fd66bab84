-- The forms of a compact size: the first byte alone, and the three wide ones as one case, over the first byte, the number of bytes after it and the least number that takes them.
use Prim.Native.Nat.{ℕ, ◌^◌, ◌≤◌, ◌<◌}
use mathlib.Core.Path.{◌≡◌, refl, subst}
use mathlib.Core.List.{List, [], ◌∷◌}
use mathlib.Core.Logic.{⊎_elim}
use native.Mathlib.Omega.{arith}
use borrow.Author.Tests.{lt-ltb, le-ltb}
use Rattle.hns_encoding.specs.Bytes.{le_bytes}
use Rattle.hns_encoding.specs.Compact.{wide_at, compact_from, compact_bytes}
use Rattle.hns_encoding.proofs.Numbers.{lt_or_ge}

pub data Wide : ℕ → ℕ → ℕ → Type 0 where
  two : Wide 253 2 253
  four : Wide 254 4 65536
  eight : Wide 255 8 4294967296

pub byte_alone : (v : ℕ) → v < 253 → compact_bytes v ≡ v ∷ []
unfolding compact_bytes
byte_alone v h = simp (lt-ltb _ _ h)

pub wide_bytes : {b n least : ℕ} → Wide b n least → (v : ℕ) → least ≤ v → v < 256 ^ n → compact_bytes v ≡ b ∷ le_bytes n v
unfolding compact_bytes
wide_bytes two v low high = simp (le-ltb _ _ low, lt-ltb _ _ high)
wide_bytes four v low high = let a : 253 ≤ v = omega arith in simp (le-ltb _ _ a, le-ltb _ _ low, lt-ltb _ _ high)
wide_bytes eight v low high =
    let a : 253 ≤ v = omega arith in
    let b : 65536 ≤ v = omega arith in
    simp (le-ltb _ _ a, le-ltb _ _ b, le-ltb _ _ low)

pub wide_from : {b n least : ℕ} → Wide b n least → (s : List ℕ) (p : ℕ) → compact_from b s p ≡ wide_at n least s p
unfolding compact_from
wide_from two s p = refl
wide_from four s p = refl
wide_from eight s p = refl

pub wide_below : {b n least : ℕ} → Wide b n least → (v : ℕ) → v < 256 ^ n → v < 2 ^ 64
wide_below two v h = omega arith
wide_below four v h = omega arith
wide_below eight v h = h

-- the form that a number takes
pub data Form (v : ℕ) : Type 0 where
  small : v < 253 → Form v
  wide : {b n least : ℕ} → Wide b n least → least ≤ v → v < 256 ^ n → Form v

pub form : (v : ℕ) → v < 2 ^ 64 → Form v
form v h = ⊎_elim small (λ a. ⊎_elim (wide two a) (λ b. ⊎_elim (wide four b) (λ c. wide eight c h) (lt_or_ge v 4294967296)) (lt_or_ge v 65536)) (lt_or_ge v 253)

-- the form that a first byte says
pub data First (b : ℕ) : Type 0 where
  alone : b < 253 → First b
  leads : {n least : ℕ} → Wide b n least → First b

pub first : (b : ℕ) → b < 256 → First b
first b h = ⊎_elim alone (λ x. ⊎_elim (λ y. is 253 two (omega arith)) (λ y. ⊎_elim (λ z. is 254 four (omega arith)) (λ z. is 255 eight (omega arith)) (lt_or_ge b 255)) (lt_or_ge b 254)) (lt_or_ge b 253)
  where
    is : (c : ℕ) {n least : ℕ} → Wide c n least → c ≡ b → First b
    is c w e = subst First e (leads w)
