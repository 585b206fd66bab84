use native.Mathlib.Omega.{arith}
use Rattle.hns_encoding.proofs.Puts.{then}
use Rattle.hns_p2p_list_puts.proofs.Rests.{first_turn, next_turn, last_turn}
use Rattle.hns_p2p_inventory.specs.Items.{item_bytes}
use Rattle.hns_p2p_inventory.proofs.Items.{none, items_written}
use Rattle.hns_p2p_inventory.proofs.write_inventory_items.Goals as goal

pub loop-item-init : goal.loop-item-init
loop-item-init c = first_turn item_bytes _ _ _ (omega arith) (omega arith)

pub loop-item-preserved : goal.loop-item-preserved
loop-item-preserved c = next_turn item_bytes _ _ _ c.loop-item.invariant none c.loop-item-test.true c.put_item-e.ensures

pub returns : goal.returns
returns c =
    let loop = last_turn item_bytes _ _ _ c.loop-item.invariant c.loop-item-test.false in
    items_written c.args.items.now c.all_whole.ensures c.args.out.now c.plan_inventory.ensures c.in_ok-needed.was c.new.ensures (then (omega arith) c.put_compact_size-e.ensures loop)
