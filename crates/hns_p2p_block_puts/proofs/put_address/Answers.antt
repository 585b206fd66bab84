use native.Mathlib.Omega.{arith}
use Rattle.hns_encoding.specs.Format.{write}
use Rattle.hns_encoding.specs.Bytes.{le_bytes}
use Rattle.hns_encoding.proofs.Puts.{◌⨟◌, put_length}
use Rattle.hns_p2p_block_puts.proofs.put_address.Goals as goal

pub returns : goal.returns
unfolding write le_bytes
returns c =
    (c.put_u64_le-e.ensures
    ⨟ c.put_u32_le-e.ensures
    ⨟ c.put_u32_le-e-2.ensures
    ⨟ c.put_host-e.ensures
    ⨟ c.put_u16_le-e.ensures
    ⨟ (λ h. c.put_array.ensures))
    (omega arith)

pub shape_of-out : goal.shape_of-out
shape_of-out c = put_length (returns c)
