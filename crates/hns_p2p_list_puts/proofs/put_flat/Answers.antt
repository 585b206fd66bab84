use mathlib.Core.Path.{sym}
use native.Mathlib.Omega.{arith}
use native.Mathlib.Nat.{div-mul-le_self}
use lib.ListN.{length}
use lib.Seq.{length-take-le}
use Rattle.hns_encoding.proofs.Puts.{◌⨟◌}
use Rattle.hns_p2p_list_puts.proofs.put_flat.Goals as goal

pub overflow_mul-count : goal.overflow_mul-count
overflow_mul-count c = omega (arith, div-mul-le_self (length c.args.items.now) c.args.width)

-- the whole items are not more than the bytes
pub slice_bounds-put_bytes-end : goal.slice_bounds-put_bytes-end
slice_bounds-put_bytes-end c =
    sym (length-take-le _ c.args.items.now (div-mul-le_self (length c.args.items.now) c.args.width))

pub returns : goal.returns
returns c =
    (c.put_compact_size-e.ensures ⨟ c.put_bytes-e.ensures ⨟ (λ h. c.put_bytes.ensures)) (omega arith)
