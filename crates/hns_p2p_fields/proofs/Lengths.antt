-- How long an ip is. Assumes nothing.
use Prim.Native.Nat.{ℕ}
use mathlib.Core.Path.{◌≡◌}
use lib.ListN.{length, length-append}
use Rattle.hns_encoding.proofs.Numbers.{length_le_bytes}
use Rattle.hns_p2p_fields.specs.Fields.{ip_in}

pub ip_length : (first last : ℕ) → length (ip_in first last) ≡ 16
ip_length first last = simp (length-append, length_le_bytes)
