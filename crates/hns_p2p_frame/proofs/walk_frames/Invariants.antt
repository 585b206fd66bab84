use Prim.Native.Nat.{◌-◌}
use lib.ListN.{length}
use Rattle.hns_p2p_frame.proofs.Turns.{WalkedTo}
use Rattle.hns_p2p_frame.proofs.walk_frames.Given as goal

abbrev pub invariant-loop-prefix : goal.invariant-loop-prefix
invariant-loop-prefix l = WalkedTo l.network l.input l.frames l.bytes

abbrev pub decreases-loop-prefix : goal.decreases-loop-prefix
decreases-loop-prefix l = length l.input - l.bytes
