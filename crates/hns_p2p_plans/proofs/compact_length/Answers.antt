use native.Mathlib.Omega.{arith}
use Rattle.hns_encoding.proofs.Forms.{two, four, eight}
use Rattle.hns_p2p_plans.proofs.Compacts.{length_alone, length_wide}
use Rattle.hns_p2p_plans.proofs.compact_length.Goals as goal

pub returns-then-value-lt253-clause-value : goal.returns-then-value-lt253-clause-value
returns-then-value-lt253-clause-value c = length_alone _ c.if-value-lt253.true

pub returns-then-value-lt65536-clause-value : goal.returns-then-value-lt65536-clause-value
returns-then-value-lt65536-clause-value c = length_wide two _ c.if-value-lt253.false c.if-value-lt65536.true

pub returns-then-value-lt4294967296-clause-value : goal.returns-then-value-lt4294967296-clause-value
returns-then-value-lt4294967296-clause-value c = length_wide four _ c.if-value-lt65536.false c.if-value-lt4294967296.true

pub returns-else-value-lt4294967296-clause-value : goal.returns-else-value-lt4294967296-clause-value
returns-else-value-lt4294967296-clause-value c = length_wide eight _ c.if-value-lt4294967296.false (omega arith)
