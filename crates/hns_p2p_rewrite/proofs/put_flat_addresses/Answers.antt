use native.Mathlib.Omega.{arith}
use Rattle.hns_encoding.specs.Bytes.{Bytes}
use Rattle.hns_encoding.proofs.Numbers.{bytes_known}
use Rattle.hns_p2p_list_puts.proofs.Rests.{all_left, one_put, none_left}
use Rattle.hns_p2p_rewrite.proofs.Fields.{flat_start, flat_here, flat_end}
use Rattle.hns_p2p_rewrite.proofs.put_flat_addresses.Goals as goal

pub loop-i-init : goal.loop-i-init
loop-i-init c = all_left _ _ (flat_start _ _ _) (omega arith) (omega arith)

pub loop-i-preserved : goal.loop-i-preserved
loop-i-preserved c =
    let z = c.args in
    let bytes : Bytes z.payload.now = bytes_known _ (λ i. (c.type_inv.payload i).fits) in
    let step = flat_here z.payload.now bytes z.items.count z.items.first c.loop-i.i c.loop-i-test.true c.requires c.address_at-address.ensures c.address_fields-fields.ensures in
    one_put c.loop-i.invariant step c.put_flat_address-e.ensures

pub returns : goal.returns
returns c = none_left c.loop-i.invariant (flat_end _ _ _ _ c.loop-i-test.false)
