-- What a turn of the program's loop leaves, by its answer. No contract but those of private functions cites this file.
use Rattle.std.specs.Prelude.{ℕ, ◌≡◌, List, Option, Some, None}
use Rattle.survey_export.specs.declared.Kept.{Kept}
use Rattle.survey_export.specs.Survey.{go_on}
use Rattle.survey_export.specs.Program.{Progress, step_of, Steps}

-- the step of some chunk answered this held count and this place, and left this store, this output and this text
pub record Stepped (z : Progress) (h at : ℕ) (s o t : List ℕ) : Type 0 where
  pub chunk : List ℕ
  pub write : ℕ
  pub answered : (step_of z chunk).answer ≡ go_on h at write
  pub store : s ≡ (step_of z chunk).store
  pub output : o ≡ (step_of z chunk).output
  pub text : t ≡ (step_of z chunk).text

-- it goes on with what is kept, or the survey is over
unfoldable pub Leaves : Progress → Option Kept → List ℕ → List ℕ → List ℕ → Type 0
Leaves z (Some k) s o t = Stepped z k.held k.position s o t
Leaves z None s o t = Steps z s o t
