use Rattle.std.proofs.Common.{◌≡◌, Err, rules}
use Rattle.hns_decoder.proofs.Reading.{moves_on, stays}
use Rattle.hns_decoder.proofs.Decoder.moved.Goals as goal

pub returns-in_err-value : goal.returns-in_err-value
returns-in_err-value g c = λ o e. let refused : c.from_residual.result ≡ Err c.in_err-value.field-0.0 = search rules in stays _ o e c.in_err-value.was refused

pub returns : goal.returns
returns g c = λ o e. moves_on _ o e c.in_ok-value.was
