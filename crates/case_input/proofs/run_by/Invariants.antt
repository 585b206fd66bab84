use Rattle.std.proofs.Common.{◌≡◌, ℕ, ◌≤◌, List, ◌++◌, length}
use Rattle.std.specs.Fn.{CalledAt}
use Rattle.std.specs.Io.KnownBytes.{Consumes}
use Rattle.case_input.specs.Cases.{begun, unbegun, cases_by, Answers}
use Rattle.case_input.proofs.run_by.Given as goal

abbrev pub invariant-loop : goal.invariant-loop
invariant-loop g l =
    goal.F-IsAlwaysCallable g l.answer × (length l.case ≡ length l.fn.case) × (l.line.size ≤ length l.fn.case) × (l.filled ≤ length l.buffer)
    × (read : List ℕ) × Consumes (g.I.Read.remaining l.fn.input) (g.I.Read.remaining l.input) read
    × ((more : List ℕ) → Answers (CalledAt g.F.FnMut) l.answer (cases_by g.D.Digit.taken (length l.fn.case) (begun l.line l.case) more)
    → Answers (CalledAt g.F.FnMut) l.fn.answer (cases_by g.D.Digit.taken (length l.fn.case) unbegun (read ++ more)))
