use Rattle.hns_p2p_differences.proofs.Differences.{WalkTo}
use Rattle.hns_p2p_differences.proofs.Reached.walk_group.Given as goal

abbrev pub invariant-loop : goal.invariant-loop
invariant-loop l = WalkTo l.payload l.fn.self.base l.fn.self.next l.base l.next l.good l.counter
