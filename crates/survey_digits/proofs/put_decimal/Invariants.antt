use Prim.Native.Nat.{◌+◌, ◌^◌, ◌<◌}
use mathlib.Core.Path.{◌≡◌}
use mathlib.Core.List.{◌++◌}
use lib.ListN.{length, drop}
use Rattle.survey_digits.specs.Digits.{decimal_up_to, decimal}
use Rattle.survey_digits.proofs.put_decimal.Given as goal

abbrev pub invariant-loop-rest : goal.invariant-loop-rest
invariant-loop-rest l = (l.i < 20) × ((length l.text ≡ 20) × ((l.rest < 10 ^ (l.i + 1)) × (decimal_up_to (l.i + 1) l.rest ++ drop (l.i + 1) l.text ≡ decimal l.n)))

abbrev pub decreases-loop-rest : goal.decreases-loop-rest
decreases-loop-rest l = l.rest
