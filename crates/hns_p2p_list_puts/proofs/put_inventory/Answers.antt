use Rattle.hns_encoding.proofs.Numbers.{bytes_known}
use Rattle.hns_p2p_list_puts.proofs.Items.{inventory_copied}
use Rattle.hns_p2p_list_puts.proofs.put_inventory.Goals as goal

pub returns : goal.returns
returns c =
    rw (inventory_copied c.args.items.now (bytes_known _ (λ i. (c.type_inv.items i).fits))) c.put_flat.ensures
