-- `survey_export::put_payload` meets its contract: nothing for an empty payload, else a space and its digits.
use Rattle.std.proofs.Common.{arith, rules}
use Rattle.hns_encoding.proofs.Puts.{put_none, ◌⨟◌}
use Rattle.survey_export.proofs.Parts.{payload_none, payload_some}
use Rattle.survey_export.proofs.put_payload.Goals as goal

pub returns-then-empty : goal.returns-then-empty
returns-then-empty c = rw (payload_none c.args.payload.now (search rules)) (put_none _ _ (omega arith))

pub returns : goal.returns
returns c = rw (payload_some c.args.payload.now (search rules)) ((c.put_u8-e.ensures ⨟ (λ h. c.put_hex.ensures)) (omega arith))
