use Rattle.hns_encoding.proofs.Forms.{wide_bytes, two, four, eight}
use Rattle.hns_encoding.proofs.Puts.{then}
use native.Mathlib.Omega.{arith}
use Rattle.hns_encoder.proofs.Encoder.put_wide.Goals as goal

pub returns-then-value-lt65536 : goal.returns-then-value-lt65536
returns-then-value-lt65536 c = rw (wide_bytes two c.args.value (omega arith) (omega arith)) (then (omega arith) c.put_u8.ensures c.put_u16_le.ensures)

pub returns-then-value-lt4294967296 : goal.returns-then-value-lt4294967296
returns-then-value-lt4294967296 c = rw (wide_bytes four c.args.value (omega arith) (omega arith)) (then (omega arith) c.put_u8-then-value-lt4294967296.ensures c.put_u32_le.ensures)

pub returns : goal.returns
returns c = rw (wide_bytes eight c.args.value (omega arith) (omega arith)) (then (omega arith) c.put_u8-2.ensures c.put_u64_le.ensures)
