use Prim.Native.Nat.{◌≤◌}
use mathlib.Core.Path.{◌≡◌}
use lib.ListN.{length}
use Rattle.case_input.proofs.next_case.Given as goal

abbrev pub invariant-loop-now : goal.invariant-loop-now
invariant-loop-now g l = (l.now.left ≤ l.initial.now.left) × ((l.now.size ≤ length l.case) × ((length l.buffer ≡ length l.initial.buffer) × (length l.case ≡ length l.initial.case)))

abbrev pub decreases-loop-now : goal.decreases-loop-now
decreases-loop-now g l = l.now.left
