-- Each turn goes on with what the one before left.
use Rattle.survey_export.specs.Program.{stay}
use Rattle.survey.specs.Turn.{Leaves}
use Rattle.survey.proofs.Turns.{goes}
use Rattle.survey.proofs.run.Goals as goal

pub loop-preserved : goal.loop-preserved
unfolding Leaves
loop-preserved g c = goes c.loop.invariant (rw c.in-Some.is at c.in_ok-next.ensures)

pub returns-in_default : goal.returns-in_default
unfolding Leaves
returns-in_default g c = c.loop.invariant _ _ _ (rw c.in_default.is at c.in_ok-next.ensures)

pub returns-after-loop : goal.returns-after-loop
returns-after-loop g c = c.loop.invariant _ _ _ stay
