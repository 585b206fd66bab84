use Rattle.hns_p2p_list_puts.proofs.Rests.{Rest}
use Rattle.hns_p2p_rewrite.proofs.Fields.{flat_from, flat_left}
use Rattle.hns_p2p_rewrite.proofs.put_flat_addresses.Given as goal

abbrev pub invariant-loop-i : goal.invariant-loop-i
invariant-loop-i l = Rest l.initial.out l.initial.e.position (flat_from l.fn.items.count l.payload l.fn.items.first) l.out l.e.position (flat_left l.fn.items.count l.payload l.fn.items.first l.i)
