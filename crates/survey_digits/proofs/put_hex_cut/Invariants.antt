use Rattle.std.proofs.Common.{take}
use Rattle.hns_encoding.specs.Put.{Put}
use Rattle.survey_digits.specs.Digits.{hex}
use Rattle.survey_digits.proofs.put_hex_cut.Given as goal

abbrev pub invariant-loop-byte : goal.invariant-loop-byte
invariant-loop-byte l = Put l.initial.out l.initial.e.position (hex (take l.byte-index l.bytes)) l.out l.e.position
