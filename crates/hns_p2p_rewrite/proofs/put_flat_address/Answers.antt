use native.Mathlib.Omega.{arith}
use Rattle.hns_encoding.specs.Format.{write}
use Rattle.hns_encoding.proofs.Puts.{◌⨟◌}
use Rattle.hns_p2p_rewrite.proofs.put_flat_address.Goals as goal

pub returns : goal.returns
unfolding write
returns c = (c.put_u64_le-e.ensures ⨟ c.put_u64_le-e-2.ensures ⨟ c.put_array-e.ensures ⨟ c.put_u16_le-e.ensures ⨟ (λ h. c.put_array.ensures)) (omega arith)
