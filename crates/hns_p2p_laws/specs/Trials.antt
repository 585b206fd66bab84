-- Wrong readers, none of which reads as the table says: document 01's trial 5, and its slips on packets.
use Rattle.std.specs.Prelude.{ℕ, ◌*◌, ◌≤◌, ◌<◌, ◌≡◌, List, [], ◌∷◌, ◌++◌, true, length, Ok, Err}
use Rattle.hns_refusals.specs.declared.Refusal.{Refusal}
use Rattle.hns_refusals.specs.Limits.{max_payload}
use Rattle.hns_refusals.specs.Refusals.{unexpected_end}
use Rattle.hns_encoding.specs.Bytes.{left, got}
use Rattle.hns_encoding.specs.Compact.{compact_at}
use Rattle.hns_encoding.specs.Format.{size}
use Rattle.hns_p2p_types.specs.declared.VersionPacket.{VersionPacket}
use Rattle.hns_p2p_types.specs.declared.Packet.TheVariants as P
use Rattle.hns_p2p_types.specs.Protocol.{address}
use Rattle.hns_p2p_types.specs.Packets.{Answer, read_packet}

-- a function of the call's type: packet type, payload, the output for a text
abbrev pub Reader : Type 0
Reader = ℕ → List ℕ → List ℕ → Answer

-- what the contract of `read_packet` says of it if no terms are named (`calls` of hns_p2p_calls)
abbrev pub Reads : Reader → Type 0
Reads read = (t : ℕ) (s o : List ℕ) → read t s o ≡ read_packet t s o

-- one packet for all payloads of a type
abbrev pub OnePacket : Reader → Type 0
OnePacket read = (t : ℕ) (s s' o : List ℕ) → (read t s o).packet ≡ (read t s' o).packet

-- refusal throughout
abbrev pub RefusesAll : Reader → Type 0
RefusesAll read = (t : ℕ) (s o : List ℕ) → (r : Refusal) × ((read t s o).packet ≡ Err r)

-- no agent and no reason written
abbrev pub NoText : Reader → Type 0
NoText read = (t : ℕ) (s o : List ℕ) → (read t s o).text ≡ o

-- slip: addresses of which bytes are missing are refused for these, also where their count is over its limit
abbrev pub ItemsFirst : Reader → Type 0
ItemsFirst read =
    (s o : List ℕ) (count next : ℕ) → length s ≤ max_payload → compact_at s 0 ≡ got count next → left s next < count * size address
    → (at : ℕ) × (missing : ℕ) × ((read 5 s o).packet ≡ Err (unexpected_end at missing))

-- slip: no-relay, the last byte of a version, is true for every number but 0
abbrev pub NonzeroIsTrue : Reader → Type 0
NonzeroIsTrue read =
    (s o : List ℕ) (b : ℕ) (v : VersionPacket) → 0 < b → (read 0 (s ++ (b ∷ [])) o).packet ≡ Ok (P.Version v) → v.no_relay ≡ true

-- `trials_fail` of proofs/Trials.antt
pub record TrialsFail : Type 0 where
  pub one_packet : (read : Reader) → OnePacket read → Reads read → ⊥
  pub not_refuses_all : (read : Reader) → RefusesAll read → Reads read → ⊥
  pub no_text : (read : Reader) → NoText read → Reads read → ⊥
  pub items_first : (read : Reader) → ItemsFirst read → Reads read → ⊥
  pub nonzero_is_true : (read : Reader) → NonzeroIsTrue read → Reads read → ⊥
