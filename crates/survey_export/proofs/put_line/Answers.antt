-- `survey_export::put_line` meets its contract: five puts, one after the other.
use Rattle.survey_export.proofs.Parts.{highest_first}
use Rattle.survey_export.specs.Text.{line}
use Rattle.hns_encoding.proofs.Puts.{◌⨟◌}
use native.Mathlib.Omega.{arith}
use lib.ListN.{length}
use Rattle.survey_export.proofs.put_line.Goals as goal

pub returns : goal.returns
unfolding line
returns c =
    rw (← highest_first (length c.args.payload.now), ← c.to_be_bytes.ensures) (
    (c.put_hex-e.ensures ⨟ c.put_u8-e.ensures ⨟ c.put_hex-e-2.ensures ⨟ c.put_payload-e.ensures ⨟ (λ h. c.put_u8.ensures)) (omega arith))
