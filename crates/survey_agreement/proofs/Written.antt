-- Chunk after chunk the program's steps write the text of the survey: what is kept of the text so far, and what the survey still says. Assumes nothing.
use Prim.Native.Nat.{ℕ, zero, suc, ◌+◌, ◌≤◌, ◌<◌}
use native.Mathlib.Nat.{min-eq_left}
use mathlib.Core.Path.{◌≡◌, refl, sym, ap, ◌∙◌}
use mathlib.Core.List.{List, ◌++◌, append_assoc}
use native.Mathlib.Omega.{arith}
use lib.ListN.{length, take, drop, length-take, length-drop}
use Rattle.hns_encoding.specs.Put.{splice, advance}
use Rattle.hns_encoding.proofs.Outcomes.{choose_leb}
use Rattle.hns_encoding.proofs.Puts.{length_splice}
use Rattle.hns_p2p_frame.proofs.Slices.{take_held}
use Rattle.survey_export.specs.Survey.{chunk_size, room_size, text_size, kept_text, lines, last_text, Added, goes_on, ends, added_text, chunk, Survey, text, survey_by, survey_from, survey, Taken, goes_on_at, step_by, take_chunk}
use Rattle.survey_export.specs.Program.{then_by, written_by, written_from, written}
use Rattle.survey_export.specs.declared.Step.{Step}
use Rattle.survey_agreement.specs.Agreement.{WritesTheSurvey}
use Rattle.survey_agreement.proofs.Sizes.{lines_append, chunk_sized, Full, chunk_full}

place : (p n : ℕ) → p + n ≤ text_size → advance p n ≡ p + n
unfolding advance
place p n h = min-eq_left (omega arith)

-- a step that puts what d adds at a place of the text t, where it fits; `go` is what is written then, and `rest` the survey that follows
module _ (t : List ℕ) (p : ℕ) (z : Taken) (go : ℕ → ℕ → List ℕ) (rest : ℕ → Survey) (n : ℕ) where
  step : (d : Added) → p + length (added_text d) ≤ length t → length t ≡ text_size → Full n d → z.text ≡ splice t p (added_text d)
      → ((h q : ℕ) → chunk_size ≤ n → q ≤ kept_text → go h q ≡ take q z.text ++ text (rest h))
      → written_by (step_by d (advance p (length (added_text d)))) z go ≡ take p t ++ text (survey_by d rest)
  unfolding step_by goes_on_at added_text survey_by text written_by then_by
  step (ends fs l) room size f e next =
      rw (place p (length (lines fs ++ last_text l)) (omega arith), e) (take_held t p (lines fs ++ last_text l) room)
  step (goes_on fs h) room size f e next =
      rw (place p (length (lines fs)) (omega arith))
      (choose_leb (λ (w : Step). written_by w z go ≡ take p t ++ (lines (fs ++ (rest h).frames) ++ last_text (rest h).last)) (p + length (lines fs)) kept_text
      (λ k. next h (p + length (lines fs)) f k ∙ joined)
      (λ k. ap (λ (w : List ℕ). take (p + length (lines fs)) z.text ++ w) (next h 0 f (omega arith)) ∙ joined))
    where
      joined : take (p + length (lines fs)) z.text ++ text (rest h) ≡ take p t ++ (lines (fs ++ (rest h).frames) ++ last_text (rest h).last)
      joined =
          rw (e, take_held t p (lines fs) room, lines_append)
          (append_assoc (take p t) (lines fs) (text (rest h)) ∙ ap (λ (w : List ℕ). take p t ++ w) (sym (append_assoc (lines fs) (lines (rest h).frames) (last_text (rest h).last))))

from : (n : ℕ) (s : List ℕ) (h : ℕ) (o t : List ℕ) (p : ℕ) (log : List ℕ) → length log < n → length o ≡ room_size → length t ≡ text_size → p ≤ kept_text
    → written_from n s h o t p log ≡ take p t ++ text (survey_from n s h o log)
unfolding written_from survey_from take_chunk
from zero s h o t p log fuel a b k = absurd (omega arith)
from (suc n) s h o t p log fuel a b k =
    let x = take chunk_size log in
    let c = chunk s h x o in
    let z = take_chunk s h x o t p in
    let sized = chunk_sized s h x o in
    step t p z (λ h' q. written_from n c.store h' c.output z.text q (drop chunk_size log)) (λ h'. survey_from n c.store h' c.output (drop chunk_size log)) (length x) c.added
    (omega (arith, sized.text)) b (chunk_full s h x o) refl
    (λ h' q full l. from n c.store h' c.output z.text q (drop chunk_size log) (simp length-drop (omega (arith, length-take chunk_size log))) (sized.output ∙ a) (length_splice t p _ ∙ b) l)

pub written_whole : WritesTheSurvey
unfolding written survey
written_whole s o t log a b = from (suc (length log)) s 0 o t 0 log (omega arith) a b (omega arith)
