use Rattle.hns_encoding.proofs.Numbers.{bytes_known}
use Rattle.hns_p2p_list_puts.proofs.Items.{headers_copied}
use Rattle.hns_p2p_list_puts.proofs.put_headers.Goals as goal

pub returns : goal.returns
returns c =
    rw (headers_copied c.args.items.now (bytes_known _ (λ i. (c.type_inv.items i).fits))) c.put_flat.ensures
