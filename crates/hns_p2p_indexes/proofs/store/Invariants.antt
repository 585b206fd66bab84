use Rattle.hns_p2p_indexes.proofs.Storing.{StoredTo}
use Rattle.hns_p2p_indexes.proofs.store.Given as goal

abbrev pub invariant-loop-i : goal.invariant-loop-i
invariant-loop-i l = StoredTo l.fn.items.count l.payload l.fn.items.first l.initial.out l.out l.i l.base l.next
