use native.Mathlib.Omega.{arith}
use Rattle.hns_encoding.proofs.Puts.{put_whole}
use Rattle.hns_encoder.proofs.Encoder.put_array.Goals as goal

pub returns : goal.returns
returns g c = put_whole c.min-at.ensures (omega arith) (omega arith) c.copy_from_slice.ensures.after (omega arith) (omega arith)
