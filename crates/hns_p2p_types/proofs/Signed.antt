-- Two's complement: a signed number as its bits. Assumes nothing.
use mathlib.Core.Path.{◌≡◌, refl}
use lib.IntN.{ℤ, pos, negsuc}
use mir.Syntax.{w64}
use mir.Val.{of_z}
use Rattle.hns_p2p_types.specs.Packets.{signed_bits}

-- the library's bits of a number are those of the definition
pub bits_same : (z : ℤ) → of_z w64 z ≡ signed_bits z
unfolding signed_bits
bits_same (pos n) = refl
bits_same (negsuc k) = refl
