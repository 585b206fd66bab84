use mathlib.Core.Path.{refl}
use native.Mathlib.Omega.{arith}
use Rattle.hns_p2p_list_puts.proofs.Rests.{all_left, one_put, none_left}
use Rattle.hns_p2p_list_puts.proofs.Differences.{differences_here, differences_end}
use Rattle.hns_p2p_list_puts.proofs.put_differences.Goals as goal

pub loop-index-init : goal.loop-index-init
loop-index-init c = all_left _ _ refl (omega arith) (omega arith)

pub loop-index-preserved : goal.loop-index-preserved
loop-index-preserved c =
    one_put c.loop-index.invariant (differences_here _ _ _ c.loop-index-test.true (c.type_inv.indexes _).fits c.saturating_sub.ensures c.saturating_add-base.ensures) c.put_compact_size-e.ensures

pub returns : goal.returns
returns c = none_left c.loop-index.invariant (differences_end _ _ _ c.loop-index-test.false)
