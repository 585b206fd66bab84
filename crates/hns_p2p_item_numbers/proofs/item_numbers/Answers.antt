use Rattle.std.proofs.Common.{rules, Err, ◌≡◌}
use mathlib.Core.Path.{◌∙◌}
use Rattle.hns_encoding.specs.Bytes.{Bytes}
use Rattle.hns_encoding.proofs.Numbers.{bytes_known}
use Rattle.hns_p2p_rights.specs.Terms.{terms_of}
use Rattle.hns_p2p_items.specs.Items.{listed_under}
use Rattle.hns_p2p_item_numbers.specs.Helpers.{address_at, inventory_at}
use Rattle.hns_p2p_item_numbers.proofs.Storing.{Shaped, of_addresses, of_inventory, shaped_answer, shaped_output, numbers_refused, numbers_none}
use Rattle.hns_p2p_item_numbers.proofs.item_numbers.Goals as goal
use Rattle.hns_p2p_item_numbers.proofs.item_numbers.Goals.{In-Addresses, In-Inventory}

addresses : (c : In-Addresses) → Shaped address_at 88 c.args.payload.now c.in-Addresses.items (listed_under (terms_of c.args.terms.now) c.args.packet_type c.args.payload.now)
addresses c =
    let a = c.args in
    of_addresses (terms_of a.terms.now) a.packet_type a.payload.now (bytes_known _ (λ i. (c.type_inv.payload i).fits)) c.listing.ensures c.in_ok-list.was c.in-Addresses.is

inventory : (c : In-Inventory) → Shaped inventory_at 36 c.args.payload.now c.in-Inventory.items (listed_under (terms_of c.args.terms.now) c.args.packet_type c.args.payload.now)
inventory c =
    let a = c.args in
    of_inventory (terms_of a.terms.now) a.packet_type a.payload.now (bytes_known _ (λ i. (c.type_inv.payload i).fits)) c.listing.ensures c.in_ok-list.was c.in-Inventory.is

pub returns-in_err-list-clause-value : goal.returns-in_err-list-clause-value
returns-in_err-list-clause-value c =
    let a = c.args in
    let bs : Bytes a.payload.now = bytes_known _ (λ i. (c.type_inv.payload i).fits) in
    let refused : c.from_residual.result ≡ Err c.in_err-list.field-0.0 = search rules in
    refused ∙ (numbers_refused (terms_of a.terms.now) a.packet_type a.payload.now bs c.listing.ensures a.out.now c.in_err-list.was).0

pub returns-in_err-list-clause-out_after : goal.returns-in_err-list-clause-out_after
returns-in_err-list-clause-out_after c =
    let a = c.args in
    let bs : Bytes a.payload.now = bytes_known _ (λ i. (c.type_inv.payload i).fits) in
    (numbers_refused (terms_of a.terms.now) a.packet_type a.payload.now bs c.listing.ensures a.out.now c.in_err-list.was).1

pub put_all-requires : goal.put_all-requires
put_all-requires c = (addresses (goal.at.put_all-requires c).In-Addresses).inside

pub returns-in-Addresses-clause-value : goal.returns-in-Addresses-clause-value
returns-in-Addresses-clause-value c = shaped_answer _ _ (addresses (goal.at.returns-in-Addresses-clause-value c).In-Addresses) _ c.put_all.ensures.value

pub returns-in-Addresses-clause-out_after : goal.returns-in-Addresses-clause-out_after
returns-in-Addresses-clause-out_after c = shaped_output _ _ (addresses (goal.at.returns-in-Addresses-clause-out_after c).In-Addresses) _ c.put_all.ensures.out_after

pub put_all-requires-in-Inventory : goal.put_all-requires-in-Inventory
put_all-requires-in-Inventory c = (inventory (goal.at.put_all-requires-in-Inventory c).In-Inventory).inside

pub returns-in-Inventory-clause-value : goal.returns-in-Inventory-clause-value
returns-in-Inventory-clause-value c = shaped_answer _ _ (inventory (goal.at.returns-in-Inventory-clause-value c).In-Inventory) _ c.put_all-in-Inventory.ensures.value

pub returns-in-Inventory-clause-out_after : goal.returns-in-Inventory-clause-out_after
returns-in-Inventory-clause-out_after c = shaped_output _ _ (inventory (goal.at.returns-in-Inventory-clause-out_after c).In-Inventory) _ c.put_all-in-Inventory.ensures.out_after

pub returns-in_default : goal.returns-in_default
returns-in_default c =
    let a = c.args in
    let bs : Bytes a.payload.now = bytes_known _ (λ i. (c.type_inv.payload i).fits) in
    let none = numbers_none (terms_of a.terms.now) a.packet_type a.payload.now bs c.listing.ensures c.in_ok-list.was a.out.now c.in_default.not-Addresses c.in_default.not-Inventory in
    record { value = none.0; out_after = none.1 }
