use Rattle.std.proofs.Common.{◌∷◌, get_or, rules}
use Rattle.std.proofs.Output.{has_written_append, has_written_of_eq}
use Rattle.std.specs.Fmt.{HasWritten, decimal}
use Rattle.case_lines.proofs.Texts.{spaced_more}
use Rattle.case_lines.proofs.NumbersDisplay.fmt.Goals as goal

pub loop-n-preserved : goal.loop-n-preserved
loop-n-preserved g c plain =
    let numbers = c.args.self.now.0.now in
    let i = c.loop-n.n-index in
    let here : HasWritten g.W.Write.write_str_gives c.loop-n.f (32 ∷ decimal (get_or numbers i 0)) c.write.new.self = search rules in
    has_written_of_eq _ _ _ _ _ (spaced_more numbers i c.loop-n-test.true) (has_written_append _ _ _ _ _ _ (c.loop-n.invariant plain) here)
