-- `run_group` meets its contract: a byte that is no difference alone is remembered, and the walk goes on.
use Rattle.std.proofs.Common.{arith}
use Rattle.hns_p2p_differences.proofs.Differences.{run_turn}
use Rattle.hns_p2p_differences.proofs.Reached.run_group.Goals as goal

pub loop-i-preserved : goal.loop-i-preserved
loop-i-preserved c = run_turn c.loop-i.invariant (omega arith) (omega arith) c.from-head.ensures (omega arith)
