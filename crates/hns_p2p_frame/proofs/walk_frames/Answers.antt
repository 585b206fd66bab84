-- `walk_frames` meets its contract: what is left to walk from `bytes` on is what is left of the whole walk.
use Rattle.hns_p2p_frame.proofs.Turns.{turn_goes}
use Rattle.hns_p2p_frame.proofs.walk_frames.Goals as goal

pub loop-prefix-preserved : goal.loop-prefix-preserved
loop-prefix-preserved c = turn_goes c.loop-prefix.invariant c.decode_frame_prefix.ensures c.in_ok-prefix.was c.in-Some.is
