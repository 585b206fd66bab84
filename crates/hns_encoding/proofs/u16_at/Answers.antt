use mathlib.Core.Path.{◌∙◌}
use Rattle.std.proofs.Common.{arith}
use Rattle.std.specs.Int.{w16}
use Rattle.hns_encoding.proofs.Reading.{number_is}
use Rattle.hns_encoding.proofs.u16_at.Goals as goal

pub returns : goal.returns
returns c = c.from_le_bytes.ensures ∙ number_is w16 (omega arith) _ _ c.array_at.ensures
