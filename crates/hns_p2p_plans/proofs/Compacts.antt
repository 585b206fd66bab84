-- How long a compact size is. Assumes nothing.
use Prim.Native.Nat.{ℕ, ◌+◌, ◌^◌, ◌≤◌, ◌<◌}
use mathlib.Core.Bool.{Bool, true, false}
use mathlib.Core.List.{List}
use mathlib.Core.Path.{◌≡◌}
use native.Mathlib.Omega.{arith}
use lib.Dec.{ltb}
use lib.ListN.{length}
use Rattle.hns_encoding.specs.Bytes.{choose}
use Rattle.hns_encoding.specs.Compact.{compact_bytes}
use Rattle.hns_encoding.proofs.Forms.{Wide, byte_alone, wide_bytes}
use Rattle.hns_encoding.proofs.Numbers.{length_le_bytes}

pub length_alone : (v : ℕ) → v < 253 → 1 ≡ length (compact_bytes v)
length_alone v h = rw (byte_alone v h)

pub length_wide : {b n least : ℕ} → Wide b n least → (v : ℕ) → least ≤ v → v < 256 ^ n → 1 + n ≡ length (compact_bytes v)
length_wide {n = n} w v low high = rw (wide_bytes w v low high) (omega (arith, length_le_bytes n v))

choose_most : (b : Bool) (x y : List ℕ) (n : ℕ) → length x ≤ n → length y ≤ n → length (choose b x y) ≤ n
choose_most true x y n h k = h
choose_most false x y n h k = k

pub compact_most : (v : ℕ) → length (compact_bytes v) ≤ 9
unfolding compact_bytes
compact_most v =
    choose_most (ltb v 253) _ _ 9 (omega arith)
    (choose_most (ltb v 65536) _ _ 9 (omega (arith, length_le_bytes 2 v)) (choose_most (ltb v 4294967296) _ _ 9 (omega (arith, length_le_bytes 4 v)) (omega (arith, length_le_bytes 8 v))))
