use Rattle.std.proofs.Common.{◌-◌, length}
use Rattle.survey_export.proofs.Lines.{PutTo}
use Rattle.survey_export.proofs.put_lines.Given as goal

abbrev pub invariant-loop-prefix : goal.invariant-loop-prefix
invariant-loop-prefix l = PutTo l.frames l.initial.out l.initial.e.position l.out l.e.position l.at

abbrev pub decreases-loop-prefix : goal.decreases-loop-prefix
decreases-loop-prefix l = length l.frames - l.at
