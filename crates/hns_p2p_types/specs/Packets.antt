-- Document 01, 'The packet': one table by type. A row has the format of a payload, the packet that its fields are, and its text; all else is read off it.
-- Places count from the payload's first byte.
use Rattle.std.specs.Prelude.{ℕ, zero, suc, ◌+◌, ◌-◌, ◌^◌, List, [], ◌∷◌, length, get_or, leb, ltb, ℤ, pos, negsuc, neg_ℤ, Some, None, Result, Ok, Err}
use Rattle.hns_refusals.specs.declared.Refusal.{Refusal}
use Rattle.hns_refusals.specs.Refusals.{output_short}
use Rattle.hns_encoding.specs.Bytes.{choose, le, part, left, Outcome, got, stop, to_end}
use Rattle.hns_encoding.specs.Compact.{compact_bytes}
use Rattle.hns_encoding.specs.Format.{Format, Value, read, All, value_at}
use Rattle.hns_encoding.specs.Put.{splice}
use Rattle.hns_p2p_types.specs.Protocol as protocol
use Rattle.hns_p2p_types.specs.Protocol.{address, version, nonce, addresses, inventory, locator, headers, carries_hash, reject, feefilter, sendcmpct, getblocktxn, getproof, Layout, always, raw_payload, read_by}
use Rattle.hns_p2p_types.specs.declared.Span.{Span}
use Rattle.hns_p2p_types.specs.declared.Items.{Items}
use Rattle.hns_p2p_types.specs.declared.NetAddress.{NetAddress}
use Rattle.hns_p2p_types.specs.declared.VersionPacket.{VersionPacket}
use Rattle.hns_p2p_types.specs.declared.LocatorPacket.{LocatorPacket}
use Rattle.hns_p2p_types.specs.declared.RejectPacket.{RejectPacket}
use Rattle.hns_p2p_types.specs.declared.Packet.{Packet}
use Rattle.hns_p2p_types.specs.declared.Packet.TheVariants as P

-- ---- the packet of a payload's fields

-- bytes that begin at a place
abbrev pub span_at : ℕ → List ℕ → Span
span_at start bs = record { start = start; length = length bs }

-- items whose count stands at a place: the first one begins after the count
abbrev pub items_at : {A : Type 0} → ℕ → List A → Items
items_at at xs = record { count = length xs; first = at + length (compact_bytes (length xs)) }

-- an address whose bytes begin at a place: its ip is two numbers of eight bytes, its key the last 33 bytes of 88
abbrev pub address_at : ℕ → Value address → NetAddress
address_at at v =
    record {
      time = v.0;
      services = v.1.0;
      ip_first = le (part v.1.1.1.0 0 8);
      ip_last = le (part v.1.1.1.0 8 8);
      port = v.1.1.1.1.0;
      key = at + 55;
    }

-- the address stands at 20, and the agent after its length byte at 116
abbrev pub version_packet : Value version → VersionPacket
version_packet v =
    record {
      version = v.0;
      services = v.1.0;
      time = v.1.1.1.0;
      remote = address_at 20 v.1.1.1.1.0;
      nonce = v.1.1.1.1.1.0;
      agent = span_at 117 v.1.1.1.1.1.1.0;
      height = v.1.1.1.1.1.1.1.0;
      no_relay = v.1.1.1.1.1.1.1.1;
    }

-- the stop hash is the last 32 bytes
abbrev pub locator_packet : List ℕ → Value locator → LocatorPacket
locator_packet s v = record { locator = items_at 0 v.0; stop = length s - 32 }

-- a hash is the last 32 bytes
abbrev pub reject_packet : List ℕ → Value reject → RejectPacket
reject_packet s v =
    record {
      message = v.0;
      code = v.1.0;
      reason = span_at 3 v.1.1.0;
      hash = choose (carries_hash v.0) (Some (length s - 32)) None;
    }

-- two's complement of 64 bits
unfoldable pub signed : ℕ → ℤ
signed v = choose (ltb v (2 ^ 63)) (pos v) (neg_ℤ (pos (2 ^ 64 - v)))

-- and back: a signed number as its 64 bits
unfoldable pub signed_bits : ℤ → ℕ
signed_bits (pos n) = n
signed_bits (negsuc n) = 2 ^ 64 - suc n

-- ---- the table

pub record Row : Type 0 where
  -- the format of a payload by its length
  pub layout : Layout
  -- the packet that the fields of a payload are
  pub packet : (s : List ℕ) → Value (layout (length s)) → Packet
  -- its agent or reason, none of the others
  pub text : (s : List ℕ) → Value (layout (length s)) → List ℕ

abbrev pub worded : (f : Format) → (List ℕ → Value f → Packet) → (Value f → List ℕ) → Row
worded f packet text = record { layout = always f; packet = packet; text = λ s v. text v }

abbrev pub fields : (f : Format) → (List ℕ → Value f → Packet) → Row
fields f packet = worded f packet (λ v. [])

abbrev pub empty : Packet → Row
empty packet = fields protocol.empty (λ s v. packet)

abbrev pub raw_bytes : (Span → Packet) → Row
raw_bytes packet = record { layout = raw_payload; packet = λ s v. packet (span_at 0 v); text = λ s v. [] }

abbrev pub agent_of : Value version → List ℕ
agent_of v = v.1.1.1.1.1.1.0

abbrev pub reason_of : Value reject → List ℕ
reason_of v = v.1.1.0

-- types 0 to 29 in order; carried types are raw bytes too
unfoldable pub rows : List Row
rows =
    worded version (λ s v. P.Version (version_packet v)) agent_of
    ∷ empty P.Verack
    ∷ fields nonce (λ s v. P.Ping v)
    ∷ fields nonce (λ s v. P.Pong v)
    ∷ empty P.GetAddr
    ∷ fields addresses (λ s v. P.Addr (items_at 0 v))
    ∷ fields inventory (λ s v. P.Inv (items_at 0 v))
    ∷ fields inventory (λ s v. P.GetData (items_at 0 v))
    ∷ fields inventory (λ s v. P.NotFound (items_at 0 v))
    ∷ fields locator (λ s v. P.GetBlocks (locator_packet s v))
    ∷ fields locator (λ s v. P.GetHeaders (locator_packet s v))
    ∷ fields headers (λ s v. P.Headers (items_at 0 v))
    ∷ empty P.SendHeaders
    ∷ raw_bytes P.Block
    ∷ raw_bytes P.Tx
    ∷ worded reject (λ s v. P.Reject (reject_packet s v)) reason_of
    ∷ empty P.Mempool
    ∷ raw_bytes P.FilterLoad
    ∷ raw_bytes P.FilterAdd
    ∷ empty P.FilterClear
    ∷ raw_bytes P.MerkleBlock
    ∷ fields feefilter (λ s v. P.FeeFilter (signed v))
    ∷ fields sendcmpct (λ s v. P.SendCmpct v.0 v.1)
    ∷ raw_bytes P.CmpctBlock
    ∷ fields getblocktxn (λ s v. P.GetBlockTxn (record { block_hash = 0; indexes = items_at 32 v.1 }))
    ∷ raw_bytes P.BlockTxn
    ∷ fields getproof (λ s v. P.GetProof (record { root = 0; key = 32 }))
    ∷ raw_bytes P.Proof
    ∷ raw_bytes P.Claim
    ∷ raw_bytes P.Airdrop
    ∷ []

-- 30 to 255: raw bytes
unfoldable pub row : ℕ → Row
row t = get_or rows t (raw_bytes (P.Unknown t))

abbrev pub layout : ℕ → Layout
layout t = (row t).layout

-- a further column of the table, one entry for each row
infixr 40 ◌&◌
abbrev pub ◌&◌ : {A B : Type 0} → A → B → A × B
a & b = (a, b)

-- the entry of a type, or that of the raw bytes past the table
abbrev pub entry : {A : Type 0} (B : A → Type 0) (l : List A) (d : A) (t : ℕ) → All B l → B d → B (get_or l t d)
entry B [] d t h k = k
entry B (a ∷ l) d zero h k = h.0
entry B (a ∷ l) d (suc t) h k = entry B l d t h.1 k

-- ---- what a payload answers

-- the packet of the fields, or the refusal
abbrev pub answered : {A : Type 0} → (A → Packet) → Outcome A → Result Packet Refusal
answered packet (got v last) = Ok (packet v)
answered packet (stop r) = Err r

-- reading a payload s as a packet of type t, without an output for its text
unfoldable pub packet_of : ℕ → List ℕ → Result Packet Refusal
packet_of t s = answered ((row t).packet s) (read_by (layout t) s)

-- its fields alone, from left to right, and 3 after them
abbrev pub fields_by : Row → List ℕ → Result Packet Refusal
fields_by w s = answered (w.packet s) (to_end (read (w.layout (length s))) s)

unfoldable pub fields_of : ℕ → List ℕ → Result Packet Refusal
fields_of t s = fields_by (row t) s

-- the address that stands at a place; zeros where it is not all there
abbrev pub no_address : NetAddress
no_address = record { time = 0; services = 0; ip_first = 0; ip_last = 0; port = 0; key = 0 }

unfoldable pub address_in : List ℕ → ℕ → NetAddress
address_in s at = choose (leb 88 (left s at)) (address_at at (value_at address _ s at)) no_address

-- ---- items as numbers one after another

-- the fields of an address in their order
abbrev pub address_numbers : NetAddress → List ℕ
address_numbers a = a.time ∷ a.services ∷ a.ip_first ∷ a.ip_last ∷ a.port ∷ a.key ∷ []

-- the kind, and the place of the hash
abbrev pub inventory_numbers : ℕ → ℕ → List ℕ
inventory_numbers kind hash = kind ∷ hash ∷ []

-- ---- what reading answers, and what the output for a text then holds

pub record Answer : Type 0 where
  pub packet : Result Packet Refusal
  pub text : List ℕ

-- 16 last, where the output is shorter than the agent or reason; else that stands at its front, and no other byte changes
unfoldable pub texted : Packet → List ℕ → List ℕ → Answer
texted packet x o =
    choose (leb (length x) (length o)) (record { packet = Ok packet; text = splice o 0 x }) (record { packet = Err (output_short (length x)); text = o })

abbrev pub answer_by : {A : Type 0} → (A → Packet) → (A → List ℕ) → Outcome A → List ℕ → Answer
answer_by packet text (got v last) o = texted (packet v) (text v) o
answer_by packet text (stop r) o = record { packet = Err r; text = o }

-- with the output o
unfoldable pub read_packet : ℕ → List ℕ → List ℕ → Answer
read_packet t s o = answer_by ((row t).packet s) ((row t).text s) (read_by (layout t) s) o
