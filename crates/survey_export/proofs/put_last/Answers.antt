-- `survey_export::put_last` meets its contract: three puts, one after the other.
use Rattle.survey_export.specs.Text.{last_line}
use native.Mathlib.Omega.{arith}
use Rattle.hns_encoding.proofs.Puts.{◌⨟◌}
use Rattle.survey_export.proofs.put_last.Goals as goal

pub returns : goal.returns
unfolding last_line
returns c =
    (c.put_bytes-e.ensures ⨟ c.put_decimal-e.ensures ⨟ (λ h. c.put_u8.ensures)) (omega arith)
