use Rattle.std.proofs.Common.{take}
use Rattle.std.specs.Fmt.{HasWritten, IsPlainFormatter}
use Rattle.hns_refusals.specs.Refusals.{spaced}
use Rattle.case_lines.proofs.NumbersDisplay.fmt.Given as goal

abbrev pub invariant-loop-n : goal.invariant-loop-n
invariant-loop-n g l = IsPlainFormatter l.fn.f → HasWritten g.W.Write.write_str_gives l.fn.f (spaced (take l.n-index l.n-items)) l.f
