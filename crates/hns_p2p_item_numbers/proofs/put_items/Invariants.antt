use Rattle.hns_p2p_item_numbers.proofs.Storing.{StoredTo}
use Rattle.hns_p2p_item_numbers.proofs.put_items.Given as goal

abbrev pub invariant-loop : goal.invariant-loop
invariant-loop g l = StoredTo g.T.Numbered.numbers g.T.Numbered.BYTES g.row.N l.payload l.fn.items l.initial.out l.out l.at l.to l.counter
