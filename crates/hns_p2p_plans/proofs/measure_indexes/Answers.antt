use Rattle.hns_p2p_plans.proofs.Indexes.{tested_more, tested_all}
use Rattle.hns_p2p_plans.proofs.measure_indexes.Goals as goal

pub loop-place-preserved : goal.loop-place-preserved
loop-place-preserved c =
    tested_more c.loop-place.invariant c.loop-place-test.true c.if-index-gt65535.false c.if-index-base.false c.compact_length-size.ensures.value c.compact_length-size.ensures.most

pub returns : goal.returns
returns c = tested_all c.loop-place.invariant c.loop-place-test.false
