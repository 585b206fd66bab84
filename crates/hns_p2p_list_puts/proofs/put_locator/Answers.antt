use Rattle.hns_encoding.proofs.Numbers.{bytes_known}
use Rattle.hns_p2p_list_puts.proofs.Items.{locator_copied}
use Rattle.hns_p2p_list_puts.proofs.put_locator.Goals as goal

pub returns : goal.returns
returns c =
    rw (locator_copied c.args.hashes.now (bytes_known _ (λ i. (c.type_inv.hashes i).fits)) _) c.put_flat.ensures
