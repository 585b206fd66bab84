-- Inputs that are bytes: by a test that computes, and zeros of any number, which stay shut so that no check counts them. Assumes nothing.
use Prim.Native.Nat.{ℕ, zero, suc}
use mathlib.Core.Path.{◌≡◌, refl, ap}
use mathlib.Core.List.{List, [], ◌∷◌}
use mathlib.Core.Bool.{Bool, true, false}
use native.Mathlib.Omega.{arith}
use lib.ListN.{length}
use lib.Dec.{leb, T}
use Rattle.hns_encoding.specs.Bytes.{Bytes, none, byte, choose}
use Rattle.hns_encoding.proofs.Outcomes.{choose_leb}

abbrev pub are_bytes : List ℕ → Bool
are_bytes [] = true
are_bytes (b ∷ bs) = choose (leb (suc b) 256) (are_bytes bs) false

pub bytes_tested : (xs : List ℕ) → T (are_bytes xs) → Bytes xs
bytes_tested [] t = none
bytes_tested (b ∷ bs) t = choose_leb (λ (r : Bool). T r → Bytes (b ∷ bs)) (suc b) 256 (λ h u. byte h (bytes_tested bs u)) (λ h u. absurd u) t

pub zeros : ℕ → List ℕ
zeros zero = []
zeros (suc n) = 0 ∷ zeros n

pub length_zeros : (n : ℕ) → length (zeros n) ≡ n
unfolding zeros
length_zeros zero = refl
length_zeros (suc n) = ap suc (length_zeros n)

pub zeros_bytes : (n : ℕ) → Bytes (zeros n)
unfolding zeros
zeros_bytes zero = none
zeros_bytes (suc n) = byte {b = 0} (omega arith) (zeros_bytes n)
