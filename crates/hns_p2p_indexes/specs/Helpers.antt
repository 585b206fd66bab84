-- What the contract of a private function asks and says. No public contract cites this file.
use Rattle.std.specs.Prelude.{ℕ, ◌≡◌, List, []}
use Rattle.hns_refusals.specs.Limits.{max_index}
use Rattle.hns_refusals.specs.Refusals.{index_field}
use Rattle.hns_encoding.specs.Bytes.{Outcome, got, stop}
use Rattle.hns_encoding.specs.Compact.{count_at}
use Rattle.hns_encoding.specs.Format.{indexes_from}

-- so many indexes read at a place
pub record Reads (n base : ℕ) (s : List ℕ) (at : ℕ) : Type 0 where
  pub indexes : List ℕ
  pub last : ℕ
  pub reads : indexes_from n base s at ≡ got indexes last

-- a difference reads at a place
pub record StepThere (s : List ℕ) (at : ℕ) : Type 0 where
  pub difference : ℕ
  pub next : ℕ
  pub reads : count_at max_index index_field s at ≡ got difference next

abbrev pub indexes_of : Outcome (List ℕ) → List ℕ
indexes_of (got is last) = is
indexes_of (stop r) = []
