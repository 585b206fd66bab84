-- How many bytes an address is. Assumes nothing.
use Prim.Native.Nat.{ℕ, ◌%◌}
use mathlib.Core.Path.{◌≡◌}
use mathlib.Core.List.{List}
use native.Mathlib.Omega.{arith}
use lib.ListN.{length, length-append}
use Rattle.hns_encoding.specs.Format.{write}
use Rattle.hns_encoding.proofs.Numbers.{length_le_bytes}
use Rattle.hns_p2p_types.specs.Protocol.{address}
use Rattle.hns_p2p_block_puts.specs.Fields.{address_value}

pub address_length : (time services : ℕ) (ip : List ℕ) (port : ℕ) (key : List ℕ) → length ip ≡ 16 → length key ≡ 33 → length (write address (address_value time services ip port key)) ≡ 88
unfolding write
address_length time services ip port key i k =
    simp length-append (omega (arith, length_le_bytes 8 time, length_le_bytes 4 (services % 4294967296), length_le_bytes 2 port, i, k))
