-- The tests of a tallying push as facts of specs/Conditions.antt. Assumes nothing.
use Prim.Native.Nat.{ℕ, ◌+◌}
use mathlib.Core.List.{List}
use lib.ListN.{length}
use Rattle.hns_p2p_frame.proofs.Tests.{Passed}
use Rattle.hns_p2p_stream.specs.Conditions.{Fits}
use Rattle.hns_p2p_tally.specs.Tally.{Roomy}
use Rattle.hns_p2p_tally.proofs.Tested.{AllPassed, roomy_is}

pub passed_fits : {s : List ℕ} {h : ℕ} {x o : List ℕ} → Passed s h x o → Fits s h x o
passed_fits p = record { held = p.held; stream = p.stream; store = p.store; output = p.output }

pub fits_passed : {s : List ℕ} {h : ℕ} {x o : List ℕ} → Fits s h x o → Passed s h x o
fits_passed p = record { held = p.held; stream = p.stream; store = p.store; output = p.output }

pub all_fits : {s : List ℕ} {h : ℕ} {x o t : List ℕ} → Fits s h x o → Roomy t (h + length x) → AllPassed s h x o t
all_fits {h = h} {x = x} {t = t} f r = record { passed = fits_passed f; long = r.size; roomy = roomy_is t (h + length x) r }
