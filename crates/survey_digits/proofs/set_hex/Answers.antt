-- `set_hex` meets its contract: a turn stores the two digits of one byte more.
use Rattle.std.proofs.Common.{arith}
use Rattle.survey_digits.proofs.Digits.{hex_start, set_turn}
use Rattle.survey_digits.proofs.set_hex.Goals as goal

pub loop-i-init : goal.loop-i-init
loop-i-init c = hex_start _ _ _ (omega arith) (omega arith)

pub loop-i-preserved : goal.loop-i-preserved
loop-i-preserved c = set_turn _ _ _ (omega arith) (omega arith) (omega arith) c.digit_of.ensures c.digit_of-in-loop-i.ensures c.loop-i.invariant
