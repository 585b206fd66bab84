-- `add_frames` meets its contract: what is left to count from `at` on is what is left of the whole.
use native.Mathlib.Omega.{arith}
use Rattle.hns_p2p_tally.proofs.Counts.{header_there, count_goes}
use Rattle.hns_p2p_tally.proofs.add_frames.Goals as goal

pub bounds-delivered-at : goal.bounds-delivered-at
bounds-delivered-at c = omega (arith, header_there c.loop-at.invariant c.loop-at-test.true)

pub loop-at-preserved : goal.loop-at-preserved
loop-at-preserved c = count_goes c.loop-at.invariant c.loop-at-test.true c.u32_at-length.ensures (omega arith) c.add_frame.ensures
