use mathlib.Core.List.{[]}
use native.Mathlib.Omega.{arith}
use Rattle.hns_encoding.proofs.Puts.{◌⨟◌}
use Rattle.hns_p2p_list_puts.proofs.Rests.{first_turn, next_turn, last_turn}
use Rattle.hns_p2p_list_puts.proofs.Items.{addresses_written, address_in}
use Rattle.hns_p2p_list_puts.proofs.put_addr.Goals as goal

pub loop-item-init : goal.loop-item-init
loop-item-init c = first_turn address_in _ _ _ (omega arith) (omega arith)

pub loop-item-preserved : goal.loop-item-preserved
loop-item-preserved c =
    next_turn address_in _ _ _ c.loop-item.invariant [] c.loop-item-test.true (rw c.fields_of.ensures at c.put_address_fields-e.ensures)

pub returns : goal.returns
returns c =
    let chunks = c.as_chunks.ensures in
    let loop = last_turn address_in _ _ _ c.loop-item.invariant c.loop-item-test.false in
    rw (addresses_written c.args.items.now, ← chunks.front, ← chunks.front_len) ((c.put_compact_size-e.ensures ⨟ (λ h. loop)) (omega arith))
