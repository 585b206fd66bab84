use mathlib.Core.Path.{◌≡◌, ◌∙◌}
use Rattle.std.proofs.Common.{Err, rules}
use Rattle.hns_decoder.proofs.Reading.{mode_refused, version_refused}
use Rattle.hns_decoder.proofs.read_send_compact.Goals as goal

pub returns-in_err-mode : goal.returns-in_err-mode
returns-in_err-mode c =
    let refused : c.from_residual.result ≡ Err c.in_err-mode.field-0.0 = search rules in
    let new = c.new-decoder.ensures in
    refused ∙ mode_refused new.0 new.1 c.read_u8.ensures c.in_err-mode.was

pub returns-in_err-version : goal.returns-in_err-version
returns-in_err-version c =
    let refused : c.from_residual-in_err-version.result ≡ Err c.in_err-version.field-0.0 = search rules in
    let new = c.new-decoder.ensures in
    refused ∙ version_refused new.0 new.1 c.read_u8.ensures c.in_ok-mode.was c.read_u64_le.ensures c.in_err-version.was
