use Rattle.std.proofs.Common.{arith}
use Rattle.std.specs.Int.{w8}
use Rattle.hns_encoding.proofs.Reading.{number_read}
use Rattle.hns_encoding.proofs.read_u8.Goals as goal

pub returns : goal.returns
returns c = number_read w8 (omega arith) _ _ c.read_array.ensures c.in_ok-bytes.was c.from_le_bytes.ensures
