use Rattle.std.proofs.Common.{arith}
use Rattle.std.specs.Int.{w32}
use Rattle.hns_encoding.proofs.Reading.{number_read}
use Rattle.hns_encoding.proofs.read_u32_le.Goals as goal

pub returns : goal.returns
returns c = number_read w32 (omega arith) _ _ c.read_array.ensures c.in_ok-bytes.was c.from_le_bytes.ensures
