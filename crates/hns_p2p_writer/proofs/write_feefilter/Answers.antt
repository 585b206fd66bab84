use mathlib.Core.Path.{ap}
use mir.Syntax.{w64}
use mir.ValLaws.{to_z-of_z}
use Rattle.hns_p2p_types.specs.Packets.{signed_bits}
use Rattle.hns_p2p_writer.proofs.write_feefilter.Goals as goal

pub returns : goal.returns
returns c =
    rw (c.signed_bits.ensures, ap signed_bits (to_z-of_z w64 c.args.rate c.ranges.rate)) at c.write_nonce.ensures
