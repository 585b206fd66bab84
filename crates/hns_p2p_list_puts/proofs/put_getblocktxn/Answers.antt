use native.Mathlib.Omega.{arith}
use Rattle.hns_encoding.specs.Format.{write}
use Rattle.hns_encoding.proofs.Puts.{◌⨟◌}
use Rattle.hns_p2p_list_puts.proofs.put_getblocktxn.Goals as goal

pub returns : goal.returns
unfolding write
returns c =
    (c.put_array-e.ensures
    ⨟ c.put_compact_size-e.ensures
    ⨟ (λ h. c.put_differences.ensures))
    (omega arith)
