-- What is written is bytes, and a compact size below 65,536 takes one of them, or three from 253 on.
use Prim.Native.Nat.{ℕ, zero, suc, ◌+◌, ◌*◌, ◌/◌, ◌%◌, ◌≤◌, ◌<◌}
use mathlib.Core.Path.{◌≡◌}
use mathlib.Core.List.{List, [], ◌∷◌}
use mathlib.Core.Bool.{Bool, true, false}
use mathlib.Core.Logic.{⊎_elim}
use native.Mathlib.Omega.{arith}
use lib.ListN.{length}
use lib.Dec.{eqb}
use Rattle.hns_encoding.specs.Bytes.{le_bytes, Bytes, none, byte}
use Rattle.hns_encoding.specs.Compact.{compact_bytes}
use Rattle.hns_encoding.specs.Format.{flag_byte}
use Rattle.hns_encoding.specs.Marks.{Mark, keep, clear, low as lower, one, marked, mark_all}
use Rattle.hns_encoding.proofs.Numbers.{lt_or_ge, length_le_bytes}
use Rattle.hns_encoding.proofs.Forms.{two, byte_alone, wide_bytes}

bytes_number : (n v : ℕ) → Bytes (le_bytes n v)
unfolding le_bytes
bytes_number zero v = none
bytes_number (suc n) v = byte {b = v % 256} (omega arith) (bytes_number n (v / 256))

marked_byte : (m : Mark) {b : ℕ} → b < 256 → marked m b < 256
marked_byte keep h = h
marked_byte clear h = omega arith
marked_byte lower h = omega arith
marked_byte one {b} h = flag_byte_lem (eqb b 1)
  where
    flag_byte_lem : (f : Bool) → flag_byte f < 256
    flag_byte_lem true = omega arith
    flag_byte_lem false = omega arith

pub bytes_marked : (ms : List Mark) {s : List ℕ} → Bytes s → Bytes (mark_all ms s)
bytes_marked [] h = none
bytes_marked (m ∷ ms) none = none
bytes_marked (m ∷ ms) (byte b h) = byte (marked_byte m b) (bytes_marked ms h)

-- ---- compact sizes

module _ (v : ℕ) where
  pub narrow : v < 253 → length (compact_bytes v) ≡ 1
  narrow h = rw (byte_alone v h)

  pub wider : 253 ≤ v → v < 65536 → length (compact_bytes v) ≡ 3
  wider h k = rw (wide_bytes two v h k) (omega (arith, length_le_bytes 2 v))

-- two bytes more are paid for by 253 of the number
pub record Width (v : ℕ) : Type 0 where
  pub some : 1 ≤ length (compact_bytes v)
  pub most : length (compact_bytes v) ≤ 3
  pub paid : 253 * length (compact_bytes v) ≤ 253 + 2 * v
  pub bytes : Bytes (compact_bytes v)

pub width : (v : ℕ) → v < 65536 → Width v
width v h =
    ⊎_elim (λ k. let e = narrow v k in record { some = omega arith; most = omega arith; paid = omega arith; bytes = rw (byte_alone v k) (byte {b = v} (omega arith) none) })
    (λ k. let e = wider v k h in record { some = omega arith; most = omega arith; paid = omega arith; bytes = rw (wide_bytes two v k h) (byte {b = 253} (omega arith) (bytes_number 2 v)) })
    (lt_or_ge v 253)
