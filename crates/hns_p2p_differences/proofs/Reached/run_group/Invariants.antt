use Prim.Native.Nat.{◌+◌}
use Rattle.hns_p2p_differences.proofs.Differences.{WalkTo}
use Rattle.hns_p2p_differences.proofs.Reached.run_group.Given as goal

abbrev pub invariant-loop-i : goal.invariant-loop-i
invariant-loop-i l = WalkTo l.payload l.self.base l.self.next l.base (l.self.next + l.i) l.alone l.i
