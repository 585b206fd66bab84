-- `walk_group` meets its contract: whichever form a difference has, the walk goes on.
use Rattle.std.proofs.Common.{arith}
use Rattle.hns_p2p_differences.proofs.Differences.{walk_one, walk_three}
use Rattle.hns_p2p_differences.proofs.Reached.walk_group.Goals as goal
use Rattle.hns_p2p_differences.proofs.Reached.walk_group.Goals.{then-head-lt253, else-head-lt253}

pub loop-preserved : goal.loop-preserved
loop-preserved c =
    let t = c.loop.invariant in
    elim c.if-head-lt253.branch [
      | then-head-lt253 w ↦ rw (w.base-is, w.next-is, w.good-is) (walk_one t (omega arith) (omega arith) c.from-head.ensures w.if-head-lt253.true)
      | else-head-lt253 w ↦ rw (w.base-is, w.next-is, w.good-is) (walk_three t (omega arith) (omega arith) c.from-head.ensures w.from.ensures w.from-else-head-lt253.ensures (omega arith) (omega arith))
    ]
