use native.Mathlib.Omega.{arith}
use Rattle.hns_encoding.proofs.Puts.{◌⨟◌}
use Rattle.hns_encoding.specs.Format.{write}
use Rattle.hns_header_consensus.proofs.Header.encode_to.Goals as goal

pub returns : goal.returns
unfolding write
returns c =
    (c.put_u32_le.ensures
    ⨟ c.put_u64_le.ensures
    ⨟ c.put_array.ensures
    ⨟ c.put_array-2.ensures
    ⨟ c.put_array-3.ensures
    ⨟ c.put_array-4.ensures
    ⨟ c.put_array-5.ensures
    ⨟ c.put_array-6.ensures
    ⨟ c.put_u32_le-2.ensures
    ⨟ c.put_u32_le-3.ensures
    ⨟ (λ h. c.put_array-7.ensures))
    (omega arith)
