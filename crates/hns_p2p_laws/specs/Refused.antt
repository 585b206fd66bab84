-- Demand 1 of reading a packet under terms: which refusals it can give, exactly when, and that what is refused writes nothing.
use Rattle.std.specs.Prelude.{ℕ, ◌≤◌, ◌<◌, ◌≡◌, List, ◌↔◌, length, Ok, Err}
use Rattle.hns_refusals.specs.declared.Refusal.{Refusal}
use Rattle.hns_refusals.specs.Refusals.{unexpected_end, not_shortest, trailing_bytes, over_limit, index_over, output_short}
use Rattle.hns_encoding.specs.Bytes.{Outcome, got, stop, to_end}
use Rattle.hns_encoding.specs.Format.{Value, read}
use Rattle.hns_encoding.specs.Put.{splice}
use Rattle.hns_p2p_types.specs.Packets.{row, layout, Answer}
use Rattle.hns_p2p_rights.specs.Terms.{Terms}
use Rattle.hns_p2p_admission.specs.Reading.{read_packet_under}
use Rattle.hns_p2p_admission.specs.Claims.{AdmissionIs}

-- 1, 2, 3, 7 and 9: what the fields of a payload can be refused for
pub data FieldRefusal : Refusal → Type 0 where
  ends : (at missing : ℕ) → FieldRefusal (unexpected_end at missing)
  if_not_shortest : (bits : ℕ) → FieldRefusal (not_shortest bits)
  left_over : (n : ℕ) → FieldRefusal (trailing_bytes n)
  if_over_limit : (value limit field : ℕ) → FieldRefusal (over_limit value limit field)
  if_index_over : FieldRefusal index_over

-- the fields of a payload s of type t from left to right, and 3 after them
abbrev pub fields_read : (t : ℕ) (s : List ℕ) → Outcome (Value (layout t (length s)))
fields_read t s = to_end (read (layout t (length s))) s

-- the answer under terms u with the output o: the tests (21, 22, 5), the fields, the text (16); what is refused leaves the output as it was
pub data AnswerIs (u : Terms) (t : ℕ) (s o : List ℕ) : Answer → Type 0 where
  if_turned_away : (r : Refusal) → AdmissionIs u t (length s) (Err r) → AnswerIs u t s o (record { packet = Err r; text = o })
  refused : AdmissionIs u t (length s) (Ok tt) → (r : Refusal) → fields_read t s ≡ stop r → FieldRefusal r
      → AnswerIs u t s o (record { packet = Err r; text = o })
  text_short : AdmissionIs u t (length s) (Ok tt) → (v : Value (layout t (length s))) (last : ℕ) → fields_read t s ≡ got v last → length o < length ((row t).text s v)
      → AnswerIs u t s o (record { packet = Err (output_short (length ((row t).text s v))); text = o })
  reads : AdmissionIs u t (length s) (Ok tt) → (v : Value (layout t (length s))) (last : ℕ) → fields_read t s ≡ got v last → length ((row t).text s v) ≤ length o
      → AnswerIs u t s o (record { packet = Ok ((row t).packet s v); text = splice o 0 ((row t).text s v) })

-- `packet_is` of proofs/Refused.antt: `read_packet` gives an answer exactly if its condition holds
abbrev pub PacketIs : Type 0
PacketIs = (u : Terms) (t : ℕ) (s o : List ℕ) (a : Answer) → AnswerIs u t s o a ↔ (a ≡ read_packet_under u t s o)
