use Rattle.hns_p2p_plans.proofs.Indexes.{Tested}
use Rattle.hns_p2p_plans.proofs.measure_indexes.Given as goal

abbrev pub invariant-loop-place : goal.invariant-loop-place
invariant-loop-place l = Tested l.indexes l.base l.size l.place
