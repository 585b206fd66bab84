use Rattle.hns_p2p_types.specs.declared.Packet.TheVariants as P
use Rattle.hns_p2p_types.specs.Packets.{row, rows, fields_of, items_at}
use Rattle.hns_p2p_lists.proofs.Packets.{as_packet}
use Rattle.hns_p2p_lists.proofs.read_inv_fields.Goals as goal

pub returns : goal.returns
unfolding fields_of row rows
returns c = as_packet P.Inv (items_at 0) _ c.read_inventory.ensures c.map.ensures.cases
