-- Steps of the program, one after another, from what each leaves. Assumes nothing.
use Rattle.std.proofs.Common.{◌≡◌, ℕ, List, refl, sym, ap, ◌∙◌}
use Rattle.std.specs.Prelude.{Option, Some, None}
use Rattle.survey_export.specs.declared.Kept.{Kept}
use Rattle.survey_export.specs.declared.Step.{Step}
use Rattle.survey_export.specs.Program.{Progress, step_of, Steps, end, next}
use Rattle.survey.specs.Turn.{Stepped, Leaves}

-- r is what the step of x answered; s, o and t are what it left
module _ (z : Progress) (x : List ℕ) {r : Step} {s o t : List ℕ} (a : r ≡ (step_of z x).answer) (b : s ≡ (step_of z x).store) (c : o ≡ (step_of z x).output) (d : t ≡ (step_of z x).text) where
  pub ended : Steps z s o t
  ended = rw (b, c, d) (end x)

  pub stepped : Leaves z r.next s o t
  unfolding Leaves
  stepped = go r.next refl
    where
      go : (n : Option Kept) → r.next ≡ n → Leaves z n s o t
      go None e = ended
      go (Some k) e = record { chunk = x; write = r.write; answered = sym a ∙ ap (λ (n : Option Kept). record { write = r.write; next = n }) e; store = b; output = c; text = d }

-- steps that go on from z go on from w
abbrev pub Onward : Progress → Progress → Type 0
Onward w z = (s o t : List ℕ) → Steps z s o t → Steps w s o t

pub goes : {w z : Progress} {k : Kept} {s o t : List ℕ} → Onward w z → Stepped z k.held k.position s o t → Onward w (record { store = s; held = k.held; output = o; text = t; place = k.position })
goes f e s o t more = f s o t (next e.chunk e.answered (rw (e.store, e.output, e.text) at more))
