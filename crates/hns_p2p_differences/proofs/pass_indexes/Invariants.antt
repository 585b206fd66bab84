use Prim.Native.Nat.{◌-◌}
use Rattle.hns_p2p_differences.proofs.Differences.{PassedTo}
use Rattle.hns_p2p_differences.proofs.pass_indexes.Given as goal

abbrev pub invariant-loop-i : goal.invariant-loop-i
invariant-loop-i l = PassedTo l.count l.payload l.first l.i l.reached.0 l.reached.1.0

abbrev pub decreases-loop-i : goal.decreases-loop-i
decreases-loop-i l = l.count - l.i
