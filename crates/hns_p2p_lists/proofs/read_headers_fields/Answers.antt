use mathlib.Core.Path.{◌∙◌}
use mathlib.Core.Path.{refl}
use Rattle.hns_encoding.specs.Format.{whole}
use Rattle.hns_header_consensus.specs.Layout.{header}
use Rattle.hns_encoding.proofs.Numbers.{bytes_known}
use Rattle.hns_p2p_types.specs.declared.Packet.TheVariants as P
use Rattle.hns_p2p_types.specs.Packets.{row, rows, fields_of, items_at}
use Rattle.hns_p2p_lists.proofs.Listed.{list_answer}
use Rattle.hns_p2p_lists.proofs.Packets.{as_packet}
use Rattle.hns_p2p_lists.proofs.read_headers_fields.Goals as goal

pub returns : goal.returns
unfolding fields_of row rows
returns c =
    let s = c.args.payload.now in
    let bs = bytes_known s (λ i. (c.shared_slice_known-1.given i).fits) in
    as_packet P.Headers (items_at 0) _ (c.read_whole.ensures ∙ list_answer 2000 4 (whole 236 header) (refl, _) s bs) c.map.ensures.cases
