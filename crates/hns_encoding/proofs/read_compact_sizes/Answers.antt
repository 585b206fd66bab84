-- `read_compact_sizes` meets its contract: what is read so far and what is left are the whole run.
use mathlib.Core.Path.{◌∙◌}
use lib.Seq.{set-get_or}
use Rattle.hns_encoding.proofs.Runs.{read_start, full_here, full_answer, refused_here, ended_answer, ended_values, one_more}
use Rattle.hns_encoding.proofs.read_compact_sizes.Goals as goal

pub loop-count-init : goal.loop-count-init
loop-count-init c = read_start _ _ _

pub returns-in-Err-clause-value : goal.returns-in-Err-clause-value
returns-in-Err-clause-value c =
    let t = c.loop-count.invariant in
    ended_answer t (refused_here t c.loop-count-test.true c.read_compact_size.ensures c.in-Err.is)

pub returns-in-Err-clause-values_after : goal.returns-in-Err-clause-values_after
returns-in-Err-clause-values_after c =
    let t = c.loop-count.invariant in
    set-get_or _ _ _ ∙ ended_values t (refused_here t c.loop-count-test.true c.read_compact_size.ensures c.in-Err.is)

pub loop-count-preserved : goal.loop-count-preserved
loop-count-preserved c =
    let t = c.loop-count.invariant in
    one_more t c.loop-count-test.true c.read_compact_size.ensures c.in-Ok.is

pub returns-clause-value : goal.returns-clause-value
returns-clause-value c = full_answer c.loop-count.invariant c.loop-count-test.false

pub returns-clause-values_after : goal.returns-clause-values_after
returns-clause-values_after c =
    let t = c.loop-count.invariant in
    ended_values t (full_here t c.loop-count-test.false)
