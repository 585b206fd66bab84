-- Tests that are made one after another.
use Rattle.std.specs.Prelude.{Ok, Err}
use Rattle.hns_refusals.specs.Refusals.{Answer}

-- one test and then another: the first refusal is the answer
unfoldable pub first : Answer (Unit {0}) → Answer (Unit {0}) → Answer (Unit {0})
first (Ok u) next = next
first (Err r) next = Err r
