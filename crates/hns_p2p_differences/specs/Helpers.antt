-- What the contracts of private functions say: sixteen differences at once. No public contract cites this file.
use Rattle.std.specs.Prelude.{ℕ, ◌+◌, ◌-◌, ◌≤◌, ◌≡◌, List, Ok, Err}
use Rattle.hns_refusals.specs.Limits.{max_index}
use Rattle.hns_refusals.specs.Refusals.{Answer}
use Rattle.hns_encoding.specs.Bytes.{Outcome, got, stop}
use Rattle.hns_encoding.specs.Format.{indexes_from}
use Rattle.hns_p2p_differences.specs.declared.Passed.{Passed}
use Rattle.hns_p2p_differences.specs.Passing.{last_of}

-- a list that follows an index
unfoldable pub passed_after : ℕ → Outcome (List ℕ) → Answer Passed
passed_after before (got is next) = Ok (record { next = next; last = last_of before is })
passed_after before (stop r) = Err r

-- sixteen indexes are passed, each at least `base`, where those after them can be at least `least`: these are read from `next` on
pub record Grouped (s : List ℕ) (base at least next : ℕ) : Type 0 where
  pub low : least ≤ max_index + 1
  pub rest : (k : ℕ) → passed_after (base - 1) (indexes_from (16 + k) base s at) ≡ passed_after (least - 1) (indexes_from k least s next)

-- and there are as many
pub record NextGroup (s : List ℕ) (base at i count least next : ℕ) : Type 0 where
  pub left : i + 16 ≤ count
  pub grouped : Grouped s base at least next
