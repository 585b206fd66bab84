use Rattle.hns_p2p_item_numbers.proofs.Storing.{address_set}
use Rattle.hns_p2p_item_numbers.proofs.AddressesNumbered6.put.Goals as goal

pub returns : goal.returns
returns c = rw c.from.ensures (address_set _ _ _ c.requires.0 c.address_at-address.ensures)
