-- The code's answers, of what the definitions give.
use Rattle.std.specs.Prelude.{ℕ, ◌-◌, List, length, Ok, Err}
use Rattle.hns_encoding.specs.declared.Slice.{Slice}
use Rattle.hns_refusals.specs.Refusals.{Answer}
use Rattle.hns_encoding.specs.Bytes.{Outcome, got, stop}
use Rattle.hns_encoding.specs.Compact.{Run}
use Rattle.hns_encoding.specs.declared.Sizes.{Sizes}

-- a value and the place after it, or the refusal
unfoldable pub result_of : {A : Type 0} → Outcome A → Answer (A × ℕ)
result_of (got v next) = Ok (v, next)
result_of (stop r) = Err r

-- bytes are answered by where they stand: they are the last before the next place
unfoldable pub range_of : Outcome (List ℕ) → Answer Slice
range_of (got bs next) = Ok (record { start = next - length bs; end = next })
range_of (stop r) = Err r

unfoldable pub finished_of : Outcome (Unit {0}) → Answer (Unit {0})
finished_of (got u next) = Ok tt
finished_of (stop r) = Err r

-- how many were read and the place after them; the values are stored
unfoldable pub sizes_of : Run → Sizes
sizes_of run = record { count = length run.values; next = run.next }
