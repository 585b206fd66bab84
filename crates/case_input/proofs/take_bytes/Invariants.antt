use Rattle.std.proofs.Common.{◌≡◌, ℕ, ◌≤◌, List, ◌++◌, length, drop}
use Rattle.std.specs.Fn.{CalledAt}
use Rattle.case_input.specs.Cases.{begun, cases_by, Answers}
use Rattle.case_input.proofs.take_bytes.Given as goal

abbrev pub invariant-loop-byte : goal.invariant-loop-byte
invariant-loop-byte g l =
    goal.F-IsAlwaysCallable g l.answer × (length l.case ≡ length l.fn.case) × (l.line.size ≤ length l.fn.case)
    × ((more : List ℕ) → Answers (CalledAt g.F.FnMut) l.answer (cases_by g.D.Digit.taken (length l.fn.case) (begun l.line l.case) (drop l.byte-index l.bytes ++ more))
    → Answers (CalledAt g.F.FnMut) l.fn.answer (cases_by g.D.Digit.taken (length l.fn.case) (begun l.fn.before l.fn.case) (l.bytes ++ more)))
