use Rattle.std.proofs.Common.{◌+◌, ◌*◌, take}
use Rattle.hns_encoding.specs.Put.{Put}
use Rattle.survey_digits.specs.Digits.{hex}
use Rattle.survey_digits.proofs.set_hex.Given as goal

abbrev pub invariant-loop-i : goal.invariant-loop-i
invariant-loop-i l = Put l.initial.out l.at (hex (take l.i l.bytes)) l.out (l.at + 2 * l.i)
