use native.Mathlib.Omega.{arith}
use Rattle.hns_encoding.specs.Format.{write}
use Rattle.hns_encoding.proofs.Puts.{◌⨟◌, put_byte}
use Rattle.hns_p2p_block_puts.proofs.put_sendcmpct.Goals as goal

pub returns : goal.returns
unfolding write
returns c =
    (put_byte (omega arith) c.put_u8.ensures
    ⨟ (λ h. c.put_u64_le.ensures))
    (omega arith)
