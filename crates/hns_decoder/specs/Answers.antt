-- What a read answers that keeps the place itself.
use Rattle.std.specs.Prelude.{Ok, Err}
use Rattle.hns_refusals.specs.Refusals.{Answer}
use Rattle.hns_encoding.specs.Bytes.{Outcome, got, stop}

-- a value or the refusal; of type 22, mode and version
unfoldable pub value_of : {A : Type 0} → Outcome A → Answer A
value_of (got v next) = Ok v
value_of (stop r) = Err r
