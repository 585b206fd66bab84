-- What the contracts of private functions say: a payload as reads of some widths, and then no byte. No public contract cites this file.
use Rattle.std.specs.Prelude.{ℕ, List, length, leb, Ok, Err}
use Rattle.hns_refusals.specs.Refusals.{Answer}
use Rattle.hns_encoding.specs.Bytes.{choose, Outcome, got, stop, end_at, to_end}
use Rattle.hns_encoding.specs.Format.{sum, short, read}
use Rattle.hns_p2p_types.specs.Protocol.{nonce}

unfoldable pub block_end : List ℕ → List ℕ → Outcome (Unit {0})
block_end ws s = choose (leb (sum ws) (length s)) (end_at s (sum ws)) (stop (short ws 0 (length s)))

-- the value of a whole payload, or the refusal
abbrev pub value_of : {A : Type 0} → Outcome A → Answer A
value_of (got v last) = Ok v
value_of (stop r) = Err r

-- one number of eight bytes, and then no byte
unfoldable pub eight_in : List ℕ → Answer ℕ
eight_in s = value_of (to_end (read nonce) s)
