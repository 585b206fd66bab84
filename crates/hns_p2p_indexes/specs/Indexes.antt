-- Document 01, 'The packet', type 24: the indexes of a payload all at once, what is answered, and what the output holds after it.
use Rattle.std.specs.Prelude.{ℕ, List, length, leb, Result, Ok, Err}
use Rattle.hns_refusals.specs.declared.Refusal.{Refusal}
use Rattle.hns_refusals.specs.Refusals.{output_short}
use Rattle.hns_encoding.specs.Bytes.{choose, Outcome, got, stop}
use Rattle.hns_encoding.specs.Format.{Value}
use Rattle.hns_encoding.specs.Put.{splice}
use Rattle.hns_p2p_types.specs.Protocol.{getblocktxn, read_by}
use Rattle.hns_p2p_types.specs.Packets.{rows, row, layout}
use Rattle.hns_p2p_rights.specs.Terms.{Terms}
use Rattle.hns_p2p_admission.specs.Reading.{read_under}

pub record Answer : Type 0 where
  pub answer : Result ℕ Refusal
  pub output : List ℕ

-- 16, with as many places as there are numbers, where the output has fewer; else they stand at its front, and no other place changes
abbrev pub fitted : List ℕ → List ℕ → Answer
fitted ns o =
    choose (leb (length ns) (length o)) (record { answer = Ok (length ns); output = splice o 0 ns }) (record { answer = Err (output_short (length ns)); output = o })

-- the payload's own refusal before that
abbrev pub stored_by : Outcome (Value getblocktxn) → List ℕ → Answer
stored_by (got v last) o = fitted v.1 o
stored_by (stop r) o = record { answer = Err r; output = o }

-- of a payload s, with the output o
unfoldable pub stored_of : List ℕ → List ℕ → Answer
unfolding row rows
stored_of s o = stored_by (read_by (layout 24) s) o

-- the same of a payload that is read under terms
unfoldable pub request_under : Terms → List ℕ → Outcome (Value getblocktxn)
unfolding row rows
request_under u s = read_under u 24 s

unfoldable pub stored_under : Terms → List ℕ → List ℕ → Answer
stored_under u s o = stored_by (request_under u s) o
