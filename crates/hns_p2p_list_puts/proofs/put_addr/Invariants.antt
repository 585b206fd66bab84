use Rattle.hns_p2p_list_puts.proofs.Rests.{Turn}
use Rattle.hns_p2p_list_puts.proofs.Items.{address_in}
use Rattle.hns_p2p_list_puts.proofs.put_addr.Given as goal

abbrev pub invariant-loop-item : goal.invariant-loop-item
invariant-loop-item l = Turn address_in l.initial.out l.initial.e.position l.items l.item-index l.out l.e.position
