use native.Mathlib.Omega.{arith}
use Rattle.hns_encoding.specs.Format.{write}
use Rattle.hns_encoding.proofs.Puts.{◌⨟◌}
use Rattle.hns_p2p_block_puts.proofs.put_getproof.Goals as goal

pub returns : goal.returns
unfolding write
returns c =
    (c.put_array.ensures
    ⨟ (λ h. c.put_array-2.ensures))
    (omega arith)
