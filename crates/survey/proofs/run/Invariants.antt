use Rattle.survey_export.specs.Program.{begun}
use Rattle.survey.proofs.Turns.{Onward}
use Rattle.survey.proofs.run.Given as goal

abbrev pub invariant-loop : goal.invariant-loop
invariant-loop g l =
    Onward (begun l.initial.store l.initial.output l.initial.text) (record { store = l.store; held = l.kept.held; output = l.output; text = l.text; place = l.kept.position })
