-- Document 01's sixteen digits, and its example of an exported survey, whole, both computed. Assumes nothing.
use Prim.Native.Nat.{ℕ}
use mathlib.Core.Path.{◌≡◌, refl}
use mathlib.Core.List.{List, [], ◌∷◌}
use lib.ListN.{replicate}
use Rattle.hns_encoding.specs.Bytes.{le, le_bytes}
use Rattle.hns_encoding.specs.Put.{splice}
use Rattle.hns_p2p_frame.specs.Frame.{magic, encoding, encodings, same, payload_length, front}
use Rattle.hns_p2p_frame.specs.Walk.{onwards, cut_up_to, cut, walked_for, walk}
use Rattle.hns_p2p_frame.specs.Push.{settled, passing, admitted, push}
use Rattle.survey_digits.specs.Digits.{digit, hex, decimal_up_to, decimal}
use Rattle.survey_export.specs.Text.{hex_payload, line, last_line, held_line}
use Rattle.survey_export.specs.Survey.{lines, last_text, added_by, chunk, text, survey_by, survey_from, survey}

-- each of the sixteen once, in order: '0123456789abcdef'
pub sixteen : hex (0x01 ∷ 0x23 ∷ 0x45 ∷ 0x67 ∷ 0x89 ∷ 0xab ∷ 0xcd ∷ 0xef ∷ []) ≡ 48 ∷ 49 ∷ 50 ∷ 51 ∷ 52 ∷ 53 ∷ 54 ∷ 55 ∷ 56 ∷ 57 ∷ 97 ∷ 98 ∷ 99 ∷ 100 ∷ 101 ∷ 102 ∷ []
unfolding digit hex
sixteen = refl

-- a frame of type 1 with no payload, one of type 2 with eight bytes, and two bytes more
abbrev log : List ℕ
log =
    0xd3 ∷ 0xf2 ∷ 0x6e ∷ 0x5b ∷ 1 ∷ 0 ∷ 0 ∷ 0 ∷ 0 ∷ 0xd3 ∷ 0xf2 ∷ 0x6e ∷ 0x5b ∷ 2 ∷ 8 ∷ 0 ∷ 0 ∷ 0 ∷ 1 ∷ 2 ∷ 3 ∷ 4 ∷ 5 ∷ 6 ∷ 7 ∷ 8 ∷ 0xd3 ∷ 0xf2 ∷ []

abbrev room : List ℕ
room = replicate 24576 0

-- '01 00000000', '02 00000008 0102030405060708' and 'held 2', a line each
abbrev whole : List ℕ
whole = 48 ∷ 49 ∷ 32 ∷ 48 ∷ 48 ∷ 48 ∷ 48 ∷ 48 ∷ 48 ∷ 48 ∷ 48 ∷ 10 ∷ 48 ∷ 50 ∷ 32 ∷ 48 ∷ 48 ∷ 48 ∷ 48 ∷ 48 ∷ 48 ∷ 48 ∷ 56 ∷ 32 ∷ 48 ∷ 49 ∷ 48 ∷ 50 ∷ 48 ∷ 51 ∷ 48 ∷ 52 ∷ 48 ∷ 53 ∷ 48 ∷ 54 ∷ 48 ∷ 55 ∷ 48 ∷ 56 ∷ 10 ∷ 104 ∷ 101 ∷ 108 ∷ 100 ∷ 32 ∷ 50 ∷ 10 ∷ []

pub example : text (survey room room log) ≡ whole
unfolding le le_bytes splice magic encoding encodings same payload_length front onwards cut_up_to cut walked_for walk settled passing admitted push digit hex hex_payload line decimal_up_to decimal last_line held_line lines last_text added_by chunk text survey_by survey_from survey
example = refl
