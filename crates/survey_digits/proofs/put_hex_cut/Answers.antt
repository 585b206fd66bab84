-- `put_hex_cut` meets its contract: a turn puts the two digits of one byte more.
use Rattle.std.proofs.Common.{refl, arith}
use Rattle.survey_digits.proofs.Digits.{hex_start, hex_turn}
use Rattle.survey_digits.proofs.put_hex_cut.Goals as goal

pub loop-byte-init : goal.loop-byte-init
loop-byte-init c = hex_start _ _ _ refl (omega arith)

pub loop-byte-preserved : goal.loop-byte-preserved
loop-byte-preserved c = hex_turn _ _ (omega arith) (omega arith) c.digit_of.ensures c.digit_of-in-loop-byte.ensures c.loop-byte.invariant c.put_array-e.ensures
