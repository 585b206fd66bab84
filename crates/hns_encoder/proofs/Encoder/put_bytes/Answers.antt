use Rattle.hns_encoding.specs.Put.{advance}
use Rattle.hns_encoder.proofs.Encoder.put_bytes.Goals as goal

pub returns : goal.returns
unfolding advance
returns c = record { next = c.saturating_add.ensures; bytes = c.put_at.ensures }
