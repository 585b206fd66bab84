use mathlib.Core.Path.{◌≡◌}
use lib.ListN.{length}
use Rattle.writer_cases.proofs.run.Given as goal

abbrev pub invariant-loop-lines : goal.invariant-loop-lines
invariant-loop-lines g l = (length l.buffer ≡ length l.initial.buffer) × ((length l.case ≡ length l.initial.case) × (length l.out ≡ length l.initial.out))

abbrev pub decreases-loop-lines : goal.decreases-loop-lines
decreases-loop-lines g l = l.lines.left
