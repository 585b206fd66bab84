-- Document 01, after its table of refusals: what every writer answers, and what the output holds after it.
use Rattle.std.specs.Prelude.{ℕ, List, length, Ok, Err}
use Rattle.hns_encoding.specs.Put.{splice}
use Rattle.hns_p2p_frame.specs.Frame.{Written}
use Rattle.hns_refusals.specs.Refusals.{Answer}
use Rattle.hns_refusals.specs.Checks.{first}
use Rattle.hns_p2p_plans.specs.Tests.{room}

abbrev pub exit : Answer ℕ → List ℕ → Written
exit r o = record { answer = r; output = o }

-- what is accepted stands at the output's front, and no other byte changes; a refusal writes nothing
unfoldable pub settle : Answer (Unit {0}) → List ℕ → List ℕ → Written
settle (Ok u) x o = exit (Ok (length x)) (splice o 0 x)
settle (Err r) x o = exit (Err r) o

-- a writer's own tests, then 5 and 16; then the payload's bytes x into the output o
unfoldable pub writing : Answer (Unit {0}) → List ℕ → List ℕ → Written
writing tests x o = settle (first tests (room (length x) (length o))) x o
