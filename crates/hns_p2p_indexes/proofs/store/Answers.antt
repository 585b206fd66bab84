-- `store` meets its contract: what is stored and what is left are the whole list. Assumes nothing.
use Rattle.hns_p2p_indexes.proofs.Storing.{store_next}
use Rattle.hns_p2p_indexes.proofs.store.Goals as goal

pub loop-i-preserved : goal.loop-i-preserved
loop-i-preserved c = store_next c.loop-i.invariant c.loop-i-test.true c.step_at-step.ensures
