use Rattle.hns_p2p_list_puts.proofs.Rests.{Turn}
use Rattle.hns_p2p_inventory.specs.Items.{item_bytes}
use Rattle.hns_p2p_inventory.proofs.write_inventory_items.Given as goal

abbrev pub invariant-loop-item : goal.invariant-loop-item
invariant-loop-item l = Turn item_bytes l.initial.out l.initial.e.position l.items l.item-index l.out l.e.position
