use Rattle.hns_encoding.specs.Compact.{varbytes}
use Rattle.hns_encoding.proofs.Puts.{then}
use native.Mathlib.Omega.{arith}
use Rattle.hns_encoder.proofs.Encoder.put_varbytes.Goals as goal

pub returns : goal.returns
unfolding varbytes
returns c = then (omega arith) c.put_compact_size-counted.ensures c.put_bytes.ensures
