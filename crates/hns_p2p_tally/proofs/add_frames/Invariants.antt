use Prim.Native.Nat.{◌-◌}
use lib.ListN.{length}
use Rattle.hns_p2p_tally.proofs.Counts.{Counting}
use Rattle.hns_p2p_tally.proofs.add_frames.Given as goal

abbrev pub invariant-loop-at : goal.invariant-loop-at
invariant-loop-at l = Counting l.delivered l.initial.tally l.tally l.at

abbrev pub decreases-loop-at : goal.decreases-loop-at
decreases-loop-at l = length l.delivered - l.at
