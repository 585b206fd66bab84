-- Document 02: which payloads are turned away before their fields, and what reading under terms is for the others.
use Rattle.std.specs.Prelude.{ℕ, ◌≤◌, ◌<◌, ◌≡◌, List, ◌↔◌, length, Ok, Err}
use Rattle.hns_refusals.specs.declared.Refusal.{Refusal}
use Rattle.hns_refusals.specs.Limits.{max_payload}
use Rattle.hns_refusals.specs.Refusals.{Answer, payload_too_large}
use Rattle.hns_encoding.specs.Bytes.{stop}
use Rattle.hns_p2p_types.specs.Protocol.{read_by}
use Rattle.hns_p2p_types.specs.Packets.{layout}
use Rattle.hns_p2p_rights.specs.Terms.{Terms, Full}
use Rattle.hns_p2p_rights.specs.Claims.{MaySend, SendingIs, Alike, granting}
use Rattle.hns_p2p_admission.specs.Admission.{admitted}
use Rattle.hns_p2p_admission.specs.Reading.{read_under}

-- ---- which answer, exactly when

-- of a payload of type t and n bytes: 21 and 22 as `may_send` gives them, then 5
pub data AdmissionIs (u : Terms) (t n : ℕ) : Answer (Unit {0}) → Type 0 where
  not_sent : {r : Refusal} → SendingIs u t (Err r) → AdmissionIs u t n (Err r)
  too_large : MaySend u t → max_payload < n → AdmissionIs u t n (Err (payload_too_large n))
  admits : MaySend u t → n ≤ max_payload → AdmissionIs u t n (Ok tt)

-- `conditions` of proofs/Admitted.antt
abbrev pub Conditions : Type 0
Conditions = (u : Terms) (t n : ℕ) (a : Answer (Unit {0})) → AdmissionIs u t n a ↔ (a ≡ admitted u t n)

-- ---- readings

-- `readings` of proofs/Admitted.antt
pub record Readings : Type 0 where
  -- what is admitted reads as document 01 says
  pub passed : (u : Terms) (t : ℕ) (s : List ℕ) → admitted u t (length s) ≡ Ok tt → read_under u t s ≡ read_by (layout t) s
  -- what is turned away is refused as the tests say
  pub away : (u : Terms) (t : ℕ) (s : List ℕ) (r : Refusal) → admitted u t (length s) ≡ Err r → read_under u t s ≡ stop r
  -- if no terms are named, all reads as document 01 says
  pub full : (u : Terms) → Full u → (t : ℕ) (s : List ℕ) → read_under u t s ≡ read_by (layout t) s
  -- neither another role's mask nor bit 31 changes a reading
  pub alike : (u u' : Terms) → Alike u u' → (t : ℕ) (s : List ℕ) → read_under u t s ≡ read_under u' t s
  -- nor do bits that are granted to any role, if the payload was admitted without them
  pub granted_more : (u : Terms) (role bits t : ℕ) (s : List ℕ) → admitted u t (length s) ≡ Ok tt → read_under (granting u role bits) t s ≡ read_under u t s
