-- `survey_export::push_chunk` meets its contract: the push's answer says which case of the definition it is.
use Rattle.survey_export.proofs.Chunks.{accepted, refused}
use Rattle.survey_export.proofs.push_chunk.Goals as goal

pub returns-in-Ok : goal.returns-in-Ok
returns-in-Ok c = let p = c.push-pushed.ensures in accepted _ _ _ _ _ _ p.value p.store_after p.output_after c.in-Ok.is c.first.ensures c.put_lines-e.ensures

pub returns-in-Err : goal.returns-in-Err
returns-in-Err c = let p = c.push-pushed.ensures in refused _ _ _ _ _ _ p.value p.store_after p.output_after c.in-Err.is c.number.ensures c.put_stop-e.ensures
