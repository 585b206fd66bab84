use native.Mathlib.Omega.{arith}
use Rattle.hns_encoding.specs.Format.{write}
use Rattle.hns_encoding.proofs.Puts.{◌⨟◌, put_byte}
use Rattle.hns_p2p_block_puts.proofs.Texts.{hash_put}
use Rattle.hns_p2p_block_puts.proofs.put_reject.Goals as goal

pub returns : goal.returns
unfolding write
returns c =
    (c.put_u8-e.ensures
    ⨟ put_byte (omega arith) c.put_u8-e-2.ensures
    ⨟ c.put_text-e.ensures
    ⨟ (λ h. hash_put c.args.message c.args.hash c.carries_reject_hash.ensures c.then_some-carried.ensures c.put_hash.ensures))
    (omega arith)
