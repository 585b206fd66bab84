use native.Mathlib.Omega.{arith}
use Rattle.hns_p2p_types.proofs.Types.{type_past}
use Rattle.hns_p2p_types.proofs.PacketTypeFromU8.from.Goals as goal

pub returns-in-30-to-255 : goal.returns-in-30-to-255
returns-in-30-to-255 c = type_past c.args.value (omega arith)
