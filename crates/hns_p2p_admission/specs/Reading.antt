-- Document 02: a payload read under terms. What is turned away is not read; all calls that read a payload as a packet go by this reading.
use Rattle.std.specs.Prelude.{ℕ, List, length, Result, Ok, Err}
use Rattle.hns_refusals.specs.declared.Refusal.{Refusal}
use Rattle.hns_encoding.specs.Bytes.{Outcome, stop, to_end}
use Rattle.hns_encoding.specs.Format.{Value, read}
use Rattle.hns_p2p_types.specs.declared.Packet.{Packet}
use Rattle.hns_p2p_types.specs.Packets.{row, layout, answered, Answer, answer_by}
use Rattle.hns_p2p_rights.specs.Terms.{Terms}
use Rattle.hns_p2p_admission.specs.Admission.{admitted}

-- tests in front of any reading
abbrev pub if_passed : {A : Type 0} → Result (Unit {0}) Refusal → Outcome A → Outcome A
if_passed (Ok u) o = o
if_passed (Err r) o = stop r

-- the tests; the fields of a payload s of type t from left to right; 3 after them
unfoldable pub read_under : Terms → (t : ℕ) (s : List ℕ) → Outcome (Value (layout t (length s)))
read_under u t s = if_passed (admitted u t (length s)) (to_end (read (layout t (length s))) s)

-- as a packet, without an output for its text
unfoldable pub packet_under : Terms → ℕ → List ℕ → Result Packet Refusal
packet_under u t s = answered ((row t).packet s) (read_under u t s)

-- with the output o
unfoldable pub read_packet_under : Terms → ℕ → List ℕ → List ℕ → Answer
read_packet_under u t s o = answer_by ((row t).packet s) ((row t).text s) (read_under u t s) o
