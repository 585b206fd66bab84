use Rattle.hns_encoding.proofs.Puts.{put_number}
use Rattle.hns_encoder.proofs.Encoder.put_u32_le.Goals as goal

pub returns : goal.returns
returns c = put_number 4 c.args.value c.to_le_bytes.ensures c.put_array.ensures
