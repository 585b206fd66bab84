-- `survey_export::put_lines` meets its contract: what is put and the lines of the frames that are left are those of all.
use Rattle.std.proofs.Common.{arith}
use Rattle.survey_export.proofs.Lines.{put_start, ends, gains, goes_on}
use Rattle.survey_export.proofs.put_lines.Goals as goal

pub loop-prefix-init : goal.loop-prefix-init
loop-prefix-init c = put_start _ _ _ (omega arith)

pub returns : goal.returns
returns c = ends c.loop-prefix.invariant c.decode_frame_prefix.ensures c.unwrap_or.ensures c.in_default.is

pub loop-prefix-preserved : goal.loop-prefix-preserved
loop-prefix-preserved c = goes_on c.loop-prefix.invariant c.decode_frame_prefix.ensures c.unwrap_or.ensures c.in-Some.is (omega arith) c.payload-payload.ensures c.put_line-e.ensures

pub overflow_add-at : goal.overflow_add-at
overflow_add-at c = omega (arith, (loop-prefix-preserved c).inside)

pub loop-prefix-smaller : goal.loop-prefix-smaller
loop-prefix-smaller c = omega (arith, (loop-prefix-preserved c).inside, gains c.loop-prefix.invariant c.decode_frame_prefix.ensures c.unwrap_or.ensures c.in-Some.is)
