-- Document 02: the eight calls that read a payload as a packet, and what their terms do to all of them.
use Rattle.std.specs.Prelude.{ℕ, ◌<◌, ◌≡◌, List, [], ◌∷◌, length, get_or, set, Result, Ok, Err}
use Rattle.std.specs.Int.Bits.{bit_or}
use Rattle.hns_refusals.specs.declared.Refusal.{Refusal}
use Rattle.hns_encoding.specs.Bytes.{Outcome, stop}
use Rattle.hns_p2p_types.specs.declared.Packet.{Packet}
use Rattle.hns_p2p_types.specs.declared.Listing.{Listing}
use Rattle.hns_p2p_types.specs.declared.Item.{Item}
use Rattle.hns_p2p_types.specs.Packets.{packet_of, Answer, read_packet}
use Rattle.hns_p2p_rights.specs.Terms.{Terms, Full, terms_of}
use Rattle.hns_p2p_rights.specs.Rights.{may_send}
use Rattle.hns_p2p_rights.specs.Claims.{Alike, SameRights, granting}
use Rattle.hns_p2p_admission.specs.Admission.{admitted}
use Rattle.hns_p2p_admission.specs.Reading.{read_under, packet_under, read_packet_under}
use Rattle.hns_p2p_items.specs.Items.{Listed, listed_of, listed_under, item_of, item_under}
use Rattle.hns_p2p_items.specs.Listings.{list_by, listing_under}
use Rattle.hns_p2p_indexes.specs.Indexes as listed
use Rattle.hns_p2p_indexes.specs.Indexes.{stored_of, stored_under}
use Rattle.hns_p2p_item_numbers.specs.Numbers.{numbers_of, numbers_under}
use Rattle.hns_p2p_frame.specs.Frame.{Written}
use Rattle.hns_p2p_writer.specs.Writing.{exit}
use Rattle.hns_p2p_wire.specs.Demand3.{rewriting, rewriting_under}

-- what the calls answer of a payload of type t, and leave in an output that they are lent
pub record Calls (t : ℕ) : Type 0 where
  pub read_payload : Result Packet Refusal
  pub packet_read : List ℕ → Answer
  pub listing : Result Listing Refusal
  pub item : ℕ → Result Item Refusal
  -- the items among which the finder looks: they give its answer, except which of several places, which document 01 leaves open
  pub find : Outcome Listed
  -- it reads type 24 alone
  pub indexes : t ≡ 24 → List ℕ → listed.Answer
  pub item_numbers : List ℕ → listed.Answer
  pub rewrite : List ℕ → Written

-- under terms, as their contracts say
abbrev pub calls_under : Terms → (t : ℕ) → List ℕ → Calls t
calls_under u t s =
    record {
      read_payload = packet_under u t s;
      packet_read = read_packet_under u t s;
      listing = listing_under u t s;
      item = item_under u t s;
      find = listed_under u t s;
      indexes = λ e. stored_under u s;
      item_numbers = numbers_under u t s;
      rewrite = rewriting_under u t s;
    }

-- as document 01 says, which knows no terms
abbrev pub calls_of : (t : ℕ) → List ℕ → Calls t
calls_of t s =
    record {
      read_payload = packet_of t s;
      packet_read = read_packet t s;
      listing = list_by (packet_of t s);
      item = item_of t s;
      find = listed_of t s;
      indexes = λ e. stored_of s;
      item_numbers = numbers_of t s;
      rewrite = rewriting t s;
    }

-- the refusal r throughout, and every output as it was
abbrev pub refusing : Refusal → (t : ℕ) → Calls t
refusing r t =
    record {
      read_payload = Err r;
      packet_read = λ o. record { packet = Err r; text = o };
      listing = Err r;
      item = λ k. Err r;
      find = stop r;
      indexes = λ e o. record { answer = Err r; output = o };
      item_numbers = λ o. record { answer = Err r; output = o };
      rewrite = exit (Err r);
    }

-- ---- what terms do to them

-- no call tells two sets of terms apart, those on rights included
pub record NoCallTells (u u' : Terms) : Type 0 where
  pub rights : SameRights u u'
  pub admit : (t n : ℕ) → admitted u t n ≡ admitted u' t n
  pub reading : (t : ℕ) (s : List ℕ) → calls_under u t s ≡ calls_under u' t s

-- `calls` of proofs/Calls.antt
pub record CallsGoByTerms : Type 0 where
  -- what two sets of terms read alike, all calls answer alike
  pub one_reading : (u u' : Terms) (t : ℕ) (s : List ℕ) → read_under u t s ≡ read_under u' t s → calls_under u t s ≡ calls_under u' t s
  -- none depends on another role's mask, nor on bit 31 of its own
  pub by_own_mask : (u u' : Terms) → Alike u u' → NoCallTells u u'
  -- bits that are granted to any role change no answer on a payload that was admitted without them
  pub granted_more : (u : Terms) (role bits t : ℕ) (s : List ℕ) → admitted u t (length s) ≡ Ok tt → calls_under (granting u role bits) t s ≡ calls_under u t s
  -- a claim that names no terms: all calls answer what document 01 says
  pub full : (u : Terms) → Full u → (t : ℕ) (s : List ℕ) → calls_under u t s ≡ calls_of t s
  -- as they do under all terms that admit the payload
  pub passed : (u : Terms) (t : ℕ) (s : List ℕ) → admitted u t (length s) ≡ Ok tt → calls_under u t s ≡ calls_of t s
  -- what is turned away is refused by all of them, and they write nothing
  pub away : (u : Terms) (t : ℕ) (s : List ℕ) (r : Refusal) → admitted u t (length s) ≡ Err r → calls_under u t s ≡ refusing r t

-- ---- and the numbers that they are lent

-- `lent` of proofs/Lent.antt
pub record LentNumbers : Type 0 where
  -- no numbers name no terms
  pub none : (t : ℕ) (s : List ℕ) → calls_under (terms_of []) t s ≡ calls_of t s
  -- another role's mask may be any number
  pub other_mask : (role k x : ℕ) (masks : List ℕ) → (role ≡ k → ⊥) → NoCallTells (terms_of (role ∷ masks)) (terms_of (role ∷ set masks k x))
  -- bits of any role's number that are granted change no answer on a payload that was admitted without them
  pub granted_more :
      (role k bits : ℕ) (masks : List ℕ) (t : ℕ) (s : List ℕ) → admitted (terms_of (role ∷ masks)) t (length s) ≡ Ok tt
      → calls_under (terms_of (role ∷ set masks k (bit_or (get_or masks k 0) bits))) t s ≡ calls_under (terms_of (role ∷ masks)) t s
  -- one to eight numbers are terms that were cut, and grant nothing
  pub cut : (role : ℕ) (masks : List ℕ) → length masks < 8 → (t : ℕ) → may_send (terms_of (role ∷ masks)) t ≡ Ok tt → ⊥
