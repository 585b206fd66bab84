use native.Mathlib.Omega.{arith}
use Rattle.hns_encoding.proofs.Puts.{put_none}
use Rattle.hns_p2p_block_puts.proofs.put_hash.Goals as goal

pub returns-in-None : goal.returns-in-None
returns-in-None c = rw c.in-None.is (put_none _ _ (omega arith))
