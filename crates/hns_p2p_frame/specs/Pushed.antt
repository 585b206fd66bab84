-- What a push answers.
use Rattle.std.specs.Prelude.{ℕ}
use Rattle.hns_refusals.specs.declared.Refusal.{Refusal}

-- accepted: the number of frames that it delivered, the length of their encodings, and how many bytes are held; refused: why, and how many bytes are held
pub data Pushed : Type 0 where
  Accepted : ℕ → ℕ → ℕ → Pushed
  Refused : Refusal → ℕ → Pushed
