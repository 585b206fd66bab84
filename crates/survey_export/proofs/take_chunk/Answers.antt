-- `survey_export::take_chunk` meets its contract: by whether the chunk is empty, what its push put, and whether it is full.
use Rattle.std.proofs.Common.{◌<◌, ◌^◌, length, arith, rules}
use Rattle.survey_export.proofs.Chunks.{log_over, stopped, ended, onwards}
use Rattle.survey_export.proofs.take_chunk.Goals as goal

pub returns-then-is_empty : goal.returns-then-is_empty
returns-then-is_empty c = log_over _ _ _ _ _ _ (search rules) c.finish.ensures

pub returns-in-Err : goal.returns-in-Err
returns-in-Err c = stopped _ _ _ _ _ _ (search rules) c.push_chunk.ensures c.in-Err.is

pub returns-in-Ok : goal.returns-in-Ok
returns-in-Ok c =
    let room : length c.args.text.now < 2 ^ 64 = omega arith in
    ended _ _ _ _ _ _ (search rules) c.push_chunk.ensures c.in-Ok.is c.if-chunk-lt-CHUNK.true room c.finish-in-Ok.ensures

pub returns-in-Ok-2 : goal.returns-in-Ok-2
returns-in-Ok-2 c = onwards _ _ _ _ _ _ (search rules) c.push_chunk.ensures c.in-Ok.is c.if-chunk-lt-CHUNK.false c.onward.ensures
