-- `lowest` meets its contract.
use Rattle.std.proofs.Common.{rules, ◌≡◌, Err}
use Rattle.hns_encoding.proofs.Numbers.{bytes_known}
use Rattle.hns_p2p_find.proofs.Finding.{find_inside, find_scanned, find_refused, find_none}
use Rattle.hns_p2p_find.proofs.lowest.Goals as goal

pub scan-requires : goal.scan-requires
scan-requires c =
    let bs = bytes_known c.args.payload.now (λ i. (c.shared_slice_known-2-1.given i).fits) in
    find_inside _ _ _ bs c.listing.ensures c.args.hash c.in_ok-list.was c.in-Inventory.is

pub returns-in-Inventory : goal.returns-in-Inventory
returns-in-Inventory c =
    let bs = bytes_known c.args.payload.now (λ i. (c.shared_slice_known-2-1.given i).fits) in
    find_scanned _ _ _ bs c.listing.ensures _ c.in_ok-list.was c.in-Inventory.is c.scan.ensures

pub returns-in_err-list : goal.returns-in_err-list
returns-in_err-list c =
    let refused : c.from_residual.result ≡ Err c.in_err-list.field-0.0 = search rules in
    let bs = bytes_known c.args.payload.now (λ i. (c.shared_slice_known-2-1.given i).fits) in
    rw refused (find_refused _ _ _ bs c.listing.ensures _ c.in_err-list.was)

pub returns-in_default : goal.returns-in_default
returns-in_default c =
    let bs = bytes_known c.args.payload.now (λ i. (c.shared_slice_known-2-1.given i).fits) in
    find_none _ _ _ bs c.listing.ensures _ c.in_ok-list.was c.in_default.not-Inventory
