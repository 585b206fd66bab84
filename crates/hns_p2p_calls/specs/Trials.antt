-- Wrong calls under terms, none of which answers as the definitions say; each is any function of the call's type that has the slip.
use Rattle.std.specs.Prelude.{ℕ, ◌^◌, ◌≤◌, ◌<◌, ◌≡◌, true, false, List, length, get_or, Result, Ok, Err}
use Rattle.std.specs.Int.Count.{ones}
use Rattle.hns_refusals.specs.Limits.{max_payload}
use Rattle.hns_refusals.specs.Refusals.{not_granted, payload_too_large}
use Rattle.hns_p2p_types.specs.Packets.{Answer, read_packet}
use Rattle.hns_refusals.specs.declared.Refusal.{Refusal}
use Rattle.hns_p2p_rights.specs.Terms.{Terms, own_mask}
use Rattle.hns_p2p_rights.specs.Rights.{bit, granted, types_granted}
use Rattle.hns_p2p_admission.specs.Reading.{read_packet_under}

-- ---- readers

-- a function of the type of `read_packet`
abbrev pub Reader : Type 0
Reader = Terms → ℕ → List ℕ → List ℕ → Answer

-- what its contract says
abbrev pub ReadsUnder : Reader → Type 0
ReadsUnder read = (u : Terms) (t : ℕ) (s o : List ℕ) → read u t s o ≡ read_packet_under u t s o

-- 5 before 21 and 22
abbrev pub LengthFirst : Reader → Type 0
LengthFirst read = (u : Terms) (t : ℕ) (s o : List ℕ) → max_payload < length s → (read u t s o).packet ≡ Err (payload_too_large (length s))

-- the mask of role k refuses for every role
abbrev pub OtherMask : ℕ → Reader → Type 0
OtherMask k read = (u : Terms) (t : ℕ) (s o : List ℕ) → u.role < 8 → granted (get_or u.masks k 0) t ≡ false → (read u t s o).packet ≡ Err not_granted

-- the mask of role k grants for every role
abbrev pub OtherGrants : ℕ → Reader → Type 0
OtherGrants k read =
    (u : Terms) (t : ℕ) (s o : List ℕ) → u.role < 8 → granted (get_or u.masks k 0) t ≡ true → length s ≤ max_payload → read u t s o ≡ read_packet t s o

-- bit 30 grants known types too
abbrev pub Bit30ForAll : Reader → Type 0
Bit30ForAll read = (u : Terms) (t : ℕ) (s o : List ℕ) → u.role < 8 → bit (own_mask u) 30 ≡ true → length s ≤ max_payload → read u t s o ≡ read_packet t s o

-- ---- counts

-- a function of the type of `types_granted`
abbrev pub Counter : Type 0
Counter = Terms → Result ℕ Refusal

abbrev pub Counts : Counter → Type 0
Counts count = (u : Terms) → count u ≡ types_granted u

-- bit 31 counts
abbrev pub CountsBit31 : Counter → Type 0
CountsBit31 count = (u : Terms) → u.role < 8 → own_mask u < 2 ^ 32 → count u ≡ Ok (ones (own_mask u))

-- `trials_fail` of proofs/Trials.antt
pub record TrialsFail : Type 0 where
  pub length_first : (read : Reader) → LengthFirst read → ReadsUnder read → ⊥
  pub other_mask : (k : ℕ) (read : Reader) → OtherMask k read → ReadsUnder read → ⊥
  pub other_grants : (k : ℕ) (read : Reader) → OtherGrants k read → ReadsUnder read → ⊥
  pub bit_30_for_all : (read : Reader) → Bit30ForAll read → ReadsUnder read → ⊥
  pub counts_bit_31 : (count : Counter) → CountsBit31 count → Counts count → ⊥
