use Rattle.hns_p2p_plans.proofs.Indexes.{size_planned}
use Rattle.hns_p2p_plans.proofs.plan_getblocktxn.Goals as goal

pub returns : goal.returns
returns c =
    size_planned c.args.indexes.now c.measure_indexes.ensures c.in_ok-differences.was _ _ c.plan_room.ensures c.compact_length.ensures.value
