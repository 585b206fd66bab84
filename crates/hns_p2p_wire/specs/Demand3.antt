-- Demand 3, whole: lists of pushes (`Demand3Holds` of hns_p2p_stream), and every payload that reads as a packet, written again from that packet.
use Rattle.std.specs.Prelude.{ℕ, ◌≤◌, ◌≡◌, List, length, take, Ok, Err}
use Rattle.hns_encoding.specs.Bytes.{Bytes, Outcome, got, stop}
use Rattle.hns_encoding.specs.Format.{Value}
use Rattle.hns_encoding.specs.Put.{splice}
use Rattle.hns_p2p_types.specs.Protocol.{Layout, read_by}
use Rattle.hns_p2p_types.specs.Packets.{layout, packet_of, read_packet}
use Rattle.hns_p2p_rights.specs.Terms.{Terms}
use Rattle.hns_p2p_admission.specs.Reading.{read_under, read_packet_under}
use Rattle.hns_p2p_frame.specs.Frame.{Written}
use Rattle.hns_p2p_stream.specs.Stream.{Demand3Holds}
use Rattle.hns_p2p_writer.specs.Writing.{exit}
use Rattle.hns_p2p_wire.specs.Table.{writer}
use Rattle.hns_p2p_wire.specs.NotKept.{zeroed, NotKept}

-- how many bytes a payload has, and what they read as
abbrev pub Reading : Layout → Type 0
Reading l = (n : ℕ) × Outcome (Value (l n))

abbrev pub reading : (l : Layout) → List ℕ → Reading l
reading l s = (length s, read_by l s)

-- what a writer answered and left in the output o, for a payload s that read as v
pub record Again (l : Layout) (s : List ℕ) (v : Value (l (length s))) (o : List ℕ) (end : Written) : Type 0 where
  -- the payload with what is not kept set to zero stands at the output's front, and no other byte changed
  pub answer : end.answer ≡ Ok (length s)
  pub output : end.output ≡ splice o 0 (zeroed l s)
  pub written : take (length s) end.output ≡ zeroed l s
  -- it is as long as the payload, and reads as what that reads as
  pub as_long : length (zeroed l s) ≡ length s
  pub same : reading l (zeroed l s) ≡ (length s, got v (length s))

-- a function that may write again: of a type, a payload, what that reads as, and an output. It has the payload so that wrong ones can be stated.
abbrev pub Rewriter : Type 0
Rewriter = (t : ℕ) (s : List ℕ) → Value (layout t (length s)) → List ℕ → Written

-- every payload that reads as a packet, delivered or not, into every output that is long enough
abbrev pub Rewrites : Rewriter → Type 0
Rewrites by =
    (t : ℕ) (s : List ℕ) → Bytes s → (v : Value (layout t (length s))) (last : ℕ) → read_by (layout t) s ≡ got v last
    → (o : List ℕ) → length s ≤ length o → Again (layout t) s v o (by t s v o)

-- by the writer of the type, which is given what was read; the length is there for its type, and no writer uses it
abbrev pub from_value : Rewriter
from_value t s v o = (writer t).writes (length s) v o

-- the code's answer for what is written is the one for the payload, of every type; and so is the text that it puts out
pub record SameAnswer : Type 0 where
  pub packet :
      (t : ℕ) (s : List ℕ) → Bytes s → (v : Value (layout t (length s))) (last : ℕ) → read_by (layout t) s ≡ got v last
      → packet_of t (zeroed (layout t) s) ≡ packet_of t s
  pub text :
      (t : ℕ) (s : List ℕ) → Bytes s → (v : Value (layout t (length s))) (last : ℕ) → read_by (layout t) s ≡ got v last
      → (o : List ℕ) → read_packet t (zeroed (layout t) s) o ≡ read_packet t s o

-- ---- read and written again in one call

abbrev pub rewritten_by : {A : Type 0} → (A → List ℕ → Written) → Outcome A → List ℕ → Written
rewritten_by writes (got v last) o = writes v o
rewritten_by writes (stop r) o = exit (Err r) o

-- the payload's own refusal, or what the writer of its type gives
unfoldable pub rewriting : ℕ → List ℕ → List ℕ → Written
rewriting t s o = rewritten_by (from_value t s) (read_by (layout t) s) o

-- of a payload that reads it leaves what the demand asks
abbrev pub OneCall : Type 0
OneCall =
    (t : ℕ) (s : List ℕ) → Bytes s → (v : Value (layout t (length s))) (last : ℕ) → read_by (layout t) s ≡ got v last
    → (o : List ℕ) → length s ≤ length o → Again (layout t) s v o (rewriting t s o)

-- ---- under terms

-- the same of a payload that is read under terms
unfoldable pub rewriting_under : Terms → ℕ → List ℕ → List ℕ → Written
rewriting_under u t s o = rewritten_by (from_value t s) (read_under u t s) o

abbrev pub reading_under : Terms → (t : ℕ) → List ℕ → Reading (layout t)
reading_under u t s = (length s, read_under u t s)

-- a payload that reads as v under terms is written again as the demand asks, and what is written reads under the same terms as the same packet
pub record AgainUnder (u : Terms) (t : ℕ) (s : List ℕ) (v : Value (layout t (length s))) (o : List ℕ) : Type 0 where
  pub again : Again (layout t) s v o (rewriting_under u t s o)
  pub same : reading_under u t (zeroed (layout t) s) ≡ (length s, got v (length s))
  pub answer : (x : List ℕ) → read_packet_under u t (zeroed (layout t) s) x ≡ read_packet_under u t s x

abbrev pub UnderTerms : Type 0
UnderTerms =
    (u : Terms) (t : ℕ) (s : List ℕ) → Bytes s → (v : Value (layout t (length s))) (last : ℕ) → read_under u t s ≡ got v last
    → (o : List ℕ) → length s ≤ length o → AgainUnder u t s v o

-- ---- the demand

-- `demand_3_whole`, proofs/Demand3.antt
pub record Demand3Whole : Type 0 where
  pub pushes : Demand3Holds
  pub payloads : Rewrites from_value
  pub one_call : OneCall
  pub not_kept : NotKept
  pub answers : SameAnswer
  pub under_terms : UnderTerms
