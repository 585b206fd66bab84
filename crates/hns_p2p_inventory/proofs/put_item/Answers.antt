use native.Mathlib.Omega.{arith}
use Rattle.hns_encoding.proofs.Puts.{◌⨟◌}
use Rattle.hns_p2p_inventory.specs.Items.{item_bytes}
use Rattle.hns_p2p_inventory.proofs.put_item.Goals as goal

pub returns : goal.returns
unfolding item_bytes
returns c = (c.put_u32_le-e.ensures ⨟ (λ h. c.put_array.ensures)) (omega arith)
