-- the loop pastes one byte after another
use mathlib.Core.Path.{◌∙◌}
use native.Mathlib.Omega.{arith}
use native.Mathlib.Numerals.{add-one}
use lib.ListN.{length-set}
use lib.Seq.{paste-suc}
use Rattle.hns_encoding.proofs.put_at.Goals as goal

pub loop-i-preserved : goal.loop-i-preserved
loop-i-preserved c =
    let a = c.args in
    let l = c.loop-i in
    (length-set l.out _ _ ∙ l.invariant.0, rw (l.invariant.1, add-one) (paste-suc a.out.now a.at a.bytes.now l.i 0 (omega arith) (omega arith)))
