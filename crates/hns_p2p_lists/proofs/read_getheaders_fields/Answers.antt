use Rattle.hns_p2p_types.specs.declared.Packet.TheVariants as P
use Rattle.hns_p2p_types.specs.Packets.{row, rows, fields_of, locator_packet}
use Rattle.hns_p2p_lists.specs.Helpers.{locator_of}
use Rattle.hns_p2p_lists.proofs.Packets.{as_packet}
use Rattle.hns_p2p_lists.proofs.read_getheaders_fields.Goals as goal

pub returns : goal.returns
unfolding fields_of row rows locator_of
returns c = as_packet P.GetHeaders (locator_packet c.args.payload.now) _ c.read_locator.ensures c.map.ensures.cases
