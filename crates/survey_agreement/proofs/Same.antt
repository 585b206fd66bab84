-- The text of a survey determines its frames and its last line. Assumes nothing.
use Prim.Native.Nat.{ℕ, zero, suc, ◌+◌, ◌-◌, ◌*◌, ◌/◌, ◌^◌, ◌<◌}
use mathlib.Core.Path.{◌≡◌, refl, sym, ap, ap₂, ◌∙◌}
use mathlib.Core.List.{List, [], ◌∷◌, ◌++◌, append_assoc}
use native.Mathlib.Omega.{arith}
use native.Mathlib.Nat.{pow-suc}
use lib.Dec.{ltb}
use borrow.Author.Tests.{ltb-true}
use Rattle.hns_encoding.specs.Format.{All}
use Rattle.hns_encoding.proofs.Outcomes.{choose_holds}
use Rattle.hns_p2p_frame.specs.Frame.{Frame, WellFormed}
use Rattle.survey_digits.specs.Digits.{digit, hex, decimal_up_to, decimal}
use Rattle.survey_export.specs.Text.{newline, line, last_line, held_line, stop_line}
use Rattle.survey_export.specs.Survey.{Survey, Last, held, stop, lines, last_text, text, survey}
use Rattle.survey_agreement.specs.Agreement.{TextDetermines}
use Rattle.survey_agreement.proofs.Determined.{same_line}
use Rattle.survey_agreement.proofs.Agreement.{Short, survey_sound}

digit_below : (d : ℕ) → d < 16 → digit d < 103
unfolding digit
digit_below d h = choose_holds (λ (c : ℕ). c < 103) (ltb d 10) (λ e. omega (arith, ltb-true d 10 e)) (λ e. omega arith)

-- lines of frames do not begin as the last line
not_last : (f : Frame) (fs : List Frame) (x : List ℕ) (a : Last) → f.packet_type < 256 → lines (f ∷ fs) ++ x ≡ last_text a → ⊥
unfolding lines line hex last_text held_line stop_line last_line
not_last f fs x (held n) h e = let z : digit (f.packet_type / 16) ≡ 104 = cc e in omega (arith, digit_below (f.packet_type / 16) (omega arith))
not_last f fs x (stop r) h e = let z : digit (f.packet_type / 16) ≡ 115 = cc e in omega (arith, digit_below (f.packet_type / 16) (omega arith))

same_frames : (fs gs : List Frame) (a b : Last) → All WellFormed fs → All WellFormed gs → lines fs ++ last_text a ≡ lines gs ++ last_text b → (fs ≡ gs) × (last_text a ≡ last_text b)
unfolding lines
same_frames [] [] a b v w e = (refl, e)
same_frames [] (g ∷ gs) a b v w e = absurd (not_last g gs (last_text b) a w.0.type_byte (sym e))
same_frames (f ∷ fs) [] a b v w e = absurd (not_last f fs (last_text a) b v.0.type_byte e)
same_frames (f ∷ fs) (g ∷ gs) a b v w e =
    let first = same_line f g (lines fs ++ last_text a) (lines gs ++ last_text b) v.0 w.0 (simp append_assoc at e) in
    let rest = same_frames fs gs a b v.1 w.1 first.1 in
    (cc (first.0, rest.0), rest.1)

-- decimal digits read back, after those that say n
value : ℕ → List ℕ → ℕ
value n [] = n
value n (c ∷ cs) = value (10 * n + (c - 48)) cs

value_append : (n : ℕ) (x y : List ℕ) → value n (x ++ y) ≡ value (value n x) y
unfolding value
value_append n [] y = refl
value_append n (c ∷ x) y = value_append (10 * n + (c - 48)) x y

value_decimal : (k n : ℕ) → n < 10 ^ k → value 0 (decimal_up_to k n) ≡ n
unfolding value decimal_up_to
value_decimal zero n h = omega arith
value_decimal (suc k) n h =
    choose_holds (λ (x : List ℕ). value 0 x ≡ n) (ltb n 10)
    (λ e. omega arith)
    (λ e. let bound : n < 10 ^ k * 10 = rw pow-suc at h in
    rw (value_append, value_decimal k (n / 10) (omega arith)) (omega arith))

number_same : (n m : ℕ) → n < 10 ^ 20 → m < 10 ^ 20 → decimal n ++ (newline ∷ []) ≡ decimal m ++ (newline ∷ []) → n ≡ m
unfolding value decimal
number_same n m h k e = let z : 10 * n ≡ 10 * m = sym (whole n h) ∙ (ap (value 0) e ∙ whole m k) in omega arith
  where
    -- the newline reads as a digit that says nothing
    whole : (i : ℕ) → i < 10 ^ 20 → value 0 (decimal i ++ (newline ∷ [])) ≡ 10 * i
    whole i l = value_append 0 (decimal i) (newline ∷ []) ∙ rw (value_decimal 20 i l) (omega arith)

same_last : (a b : Last) → Short a → Short b → last_text a ≡ last_text b → a ≡ b
unfolding last_text held_line stop_line last_line
same_last (held n) (held m) h k e = ap held (number_same n m h k (cc e))
same_last (held n) (stop r) h k e = let z : ◌≡◌ {A = ℕ} 104 115 = cc e in absurd (let f : ⊥ = omega arith in f)
same_last (stop r) (held n) h k e = let z : ◌≡◌ {A = ℕ} 115 104 = cc e in absurd (let f : ⊥ = omega arith in f)
same_last (stop r) (stop q) h k e = ap stop (number_same r q h k (cc e))

-- Surveys of one text have the same frames, and their last lines read the same.
pub same_text : (v w : Survey) → All WellFormed v.frames → All WellFormed w.frames → text v ≡ text w → (v.frames ≡ w.frames) × (last_text v.last ≡ last_text w.last)
unfolding text
same_text v w a b e = same_frames v.frames w.frames v.last w.last a b e

-- Two logs whose surveys have one text have one survey: the same frames, and the same last line with its number.
pub same_survey : TextDetermines
same_survey s o log s' o' log' b b' e =
    let v = survey s o log in
    let w = survey s' o' log' in
    let k = survey_sound s o log b in
    let l = survey_sound s' o' log' b' in
    let parts = same_text v w k.agrees.well_formed l.agrees.well_formed e in
    ap₂ (λ (fs : List Frame) (a : Last). record { frames = fs; last = a }) parts.0 (same_last v.last w.last k.short l.short parts.1)
