-- `item` meets its contract.
use Rattle.std.proofs.Common.{rules}
use native.Mathlib.Omega.{arith}
use Rattle.hns_encoding.proofs.Numbers.{bytes_known}
use Rattle.hns_p2p_items.proofs.Items.{item_room, item_there, item_past}
use Rattle.hns_p2p_items.proofs.item.Goals as goal

pub returns-then-items-place : goal.returns-then-items-place
returns-then-items-place c =
    let bs = bytes_known c.args.payload.now (λ i. (c.shared_slice_known-2-1.given i).fits) in
    item_past _ _ _ bs _ c.listing.ensures (search rules) c.items_in-items.ensures (omega arith)

pub item_in-requires : goal.item_in-requires
item_in-requires c =
    let bs = bytes_known c.args.payload.now (λ i. (c.shared_slice_known-2-1.given i).fits) in
    item_room _ _ _ bs _ c.listing.ensures (search rules) c.items_in-items.ensures (omega arith)

pub returns : goal.returns
returns c =
    let bs = bytes_known c.args.payload.now (λ i. (c.shared_slice_known-2-1.given i).fits) in
    item_there _ _ _ bs _ c.listing.ensures (search rules) c.items_in-items.ensures (omega arith) c.item_in.ensures
