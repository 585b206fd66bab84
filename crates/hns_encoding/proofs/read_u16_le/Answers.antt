use Rattle.std.proofs.Common.{arith}
use Rattle.std.specs.Int.{w16}
use Rattle.hns_encoding.proofs.Reading.{number_read}
use Rattle.hns_encoding.proofs.read_u16_le.Goals as goal

pub returns : goal.returns
returns c = number_read w16 (omega arith) _ _ c.read_array.ensures c.in_ok-bytes.was c.from_le_bytes.ensures
