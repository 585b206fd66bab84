-- The step of the bytes, with what was kept. A failed read leaves all as it was.
use Rattle.std.proofs.Common.{◌≡◌, Err, rules}
use Rattle.survey_export.specs.Program.{stay}
use Rattle.survey.specs.Turn.{Leaves}
use Rattle.survey.proofs.Turns.{ended, stepped}
use Rattle.survey.proofs.turn.Goals as goal

pub returns-in_err-write_all-in-Err : goal.returns-in_err-write_all-in-Err
returns-in_err-write_all-in-Err g c =
    let e : c.from_residual.result ≡ Err c.in_err-write_all-in-Err.field-0.0 = search rules in
    rw e stay

pub returns-in_err-write_all-in-Ok : goal.returns-in_err-write_all-in-Ok
returns-in_err-write_all-in-Ok g c =
    let p = c.take_chunk-step.ensures in
    let e : c.from_residual-in_err-write_all-in-Ok.result ≡ Err c.in_err-write_all-in-Ok.field-0.0 = search rules in
    rw e (ended _ _ p.value p.store_after p.output_after p.text_after)

pub returns-in_ok-write_all-in-Err : goal.returns-in_ok-write_all-in-Err
unfolding Leaves
returns-in_ok-write_all-in-Err g c = stay

pub returns-in_ok-write_all-in-Ok : goal.returns-in_ok-write_all-in-Ok
returns-in_ok-write_all-in-Ok g c = let p = c.take_chunk-step.ensures in stepped _ _ p.value p.store_after p.output_after p.text_after
