-- What a push with a tally answers.
use Rattle.std.specs.Prelude.{ℕ}
use Rattle.hns_refusals.specs.declared.Refusal.{Refusal}

-- the number of frames that it delivered, the length of their encodings, and how many bytes are held, which a refused push answers too, behind why
pub data Delivered : Type 0 where
  Accepted : ℕ → ℕ → ℕ → Delivered
  Refused : Refusal → ℕ → ℕ → ℕ → Delivered
