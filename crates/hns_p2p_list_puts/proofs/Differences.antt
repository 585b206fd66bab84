-- Differences of an index list, one turn after another. Assumes nothing.
use Prim.Native.Nat.{ℕ, ◌+◌, ◌-◌, ◌≤◌, ◌<◌, ◌^◌, min}
use mathlib.Core.Path.{◌≡◌, refl}
use mathlib.Core.List.{List, [], ◌∷◌, ◌++◌}
use native.Mathlib.Omega.{arith}
use native.Mathlib.Nat.{add-zero}
use lib.ListN.{length, get_or, drop, drop_of_length-le}
use lib.Seq.{get_or-drop}
use Rattle.hns_encoding.specs.Compact.{compact_bytes}
use Rattle.hns_encoding.specs.Format.{differences}
use Rattle.hns_encoding.proofs.Forward.{drop_next}

-- an index of 64 bits is above no greater number
cap : (b : ℕ) (s : List ℕ) → get_or s 0 0 < 2 ^ 64 → differences (min b 18446744073709551615) s ≡ differences b s
cap b [] h = refl
cap b (i ∷ s) h = let same : i - min b 18446744073709551615 ≡ i - b = omega arith in rw same

-- one index more: the code's difference d, and its next base b
pub differences_here : (s : List ℕ) (base i : ℕ) → i < length s → get_or s (i + 1) 0 < 2 ^ 64 → {d b : ℕ} → d ≡ get_or s i 0 - base → b ≡ min (get_or s i 0 + 1) 18446744073709551615
    → differences base (drop i s) ≡ compact_bytes d ++ differences b (drop (i + 1) s)
differences_here s base i h k e q =
    let first : get_or (drop (i + 1) s) 0 0 < 2 ^ 64 = rw (get_or-drop (i + 1) s 0 0, add-zero) k in
    let capped = cap (get_or s i 0 + 1) (drop (i + 1) s) first in
    rw (drop_next s i h, e, q, capped)

pub differences_end : (s : List ℕ) (base i : ℕ) → length s ≤ i → differences base (drop i s) ≡ []
differences_end s base i h = let none : drop i s ≡ [] = drop_of_length-le s {i = i} h in rw none
