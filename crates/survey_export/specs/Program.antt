-- The survey program as a run of steps: what it keeps between them, and what they have it write.
use Rattle.std.specs.Prelude.{ℕ, zero, suc, ◌≡◌, List, [], ◌++◌, length, take, drop, Option, Some, None}
use Rattle.survey_export.specs.declared.Kept.{Kept}
use Rattle.survey_export.specs.declared.Step.{Step}
use Rattle.survey_export.specs.Survey.{chunk_size, go_on, Taken, take_chunk}

-- ---- what is kept between steps

pub record Progress : Type 0 where
  pub store : List ℕ
  pub held : ℕ
  pub output : List ℕ
  pub text : List ℕ
  pub place : ℕ

-- before the first step
abbrev pub begun : List ℕ → List ℕ → List ℕ → Progress
begun s o t = record { store = s; held = 0; output = o; text = t; place = 0 }

-- the step of a chunk x
abbrev pub step_of : Progress → List ℕ → Taken
step_of z x = take_chunk z.store z.held x z.output z.text z.place

-- after it, with a held count and a place
abbrev pub onto : Progress → List ℕ → ℕ → ℕ → Progress
onto z x h at = record { store = (step_of z x).store; held = h; output = (step_of z x).output; text = (step_of z x).text; place = at }

-- Steps of some chunks, each with the held count and the place that the one before answered, leave a store, an output and a text. What `run` of the survey program ensures.
pub data Steps : Progress → List ℕ → List ℕ → List ℕ → Type 0 where
  stay : {z : Progress} → Steps z z.store z.output z.text
  end : {z : Progress} (x : List ℕ) → Steps z (step_of z x).store (step_of z x).output (step_of z x).text
  next : {z : Progress} (x : List ℕ) {h at write : ℕ} {s o t : List ℕ} → (step_of z x).answer ≡ go_on h at write → Steps (onto z x h at) s o t → Steps z s o t

-- ---- what the program writes of a log: chunk after chunk, the text's first bytes as each step says, up to the last

-- what is written, and what follows where the survey goes on
unfoldable pub then_by : List ℕ → Option Kept → (ℕ → ℕ → List ℕ) → List ℕ
then_by first (Some k) go = first ++ go k.held k.position
then_by first None go = first

unfoldable pub written_by : Step → Taken → (ℕ → ℕ → List ℕ) → List ℕ
written_by a z go = then_by (take a.write z.text) a.next go

-- at most n steps, from a store s, a held count h, an output o, a text t and a place of it on
unfoldable pub written_from : ℕ → List ℕ → ℕ → List ℕ → List ℕ → ℕ → List ℕ → List ℕ
written_from zero s h o t at log = []
written_from (suc n) s h o t at log =
    let z = take_chunk s h (take chunk_size log) o t at in
    written_by z.answer z (λ h' at'. written_from n z.store h' z.output z.text at' (drop chunk_size log))

unfoldable pub written : List ℕ → List ℕ → List ℕ → List ℕ → List ℕ
written s o t log = written_from (suc (length log)) s 0 o t 0 log
