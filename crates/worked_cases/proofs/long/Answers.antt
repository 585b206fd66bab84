-- The level and the arguments are given, else antt compares the lists by writing their zeros out.
use Prim.Native.Nat.{ℕ}
use mathlib.Core.Path.{sym}
use lib.ListN.{length-replicate}
use Rattle.worked_cases.proofs.long.Goals as goal

pub slice_bounds-long_payloads-end : goal.slice_bounds-long_payloads-end
slice_bounds-long_payloads-end g c = sym (length-replicate {0} {A = ℕ} 8000001 0)
