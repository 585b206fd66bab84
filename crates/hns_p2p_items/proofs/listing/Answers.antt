-- `listing` meets its contract.
use Rattle.hns_p2p_items.proofs.Items.{list_read}
use Rattle.hns_p2p_items.proofs.listing.Goals as goal

pub returns : goal.returns
returns c = list_read _ _ _ c.read_payload.ensures c.map.ensures.cases
