-- The places that a packet answers, and what the format reads there: keys, hashes and raw bytes as they stand, texts without their top bits. (The items under a count: crates/hns_p2p_items/specs/Items.antt.)
use Rattle.std.specs.Prelude.{ℕ, ◌+◌, ◌≤◌, ◌≡◌, Bool, true, false, List, [], ◌∷◌, map, length, Option, Some, None}
use Rattle.hns_encoding.specs.Bytes.{choose, part, got}
use Rattle.hns_encoding.specs.Format.{nothing, raw, Value, low7, All}
use Rattle.hns_p2p_types.specs.declared.Span.{Span}
use Rattle.hns_p2p_types.specs.declared.Packet.{Packet}
use Rattle.hns_p2p_types.specs.declared.Packet.TheVariants as P
use Rattle.hns_p2p_types.specs.Protocol.{carries_hash, read_by}
use Rattle.hns_p2p_packet.specs.Spans.{text_span}
use Rattle.hns_p2p_types.specs.Packets.{Row, rows, raw_bytes, row, layout, ◌&◌, entry}

-- ---- the places of a packet

abbrev pub at : ℕ → ℕ → Span
at start n = record { start = start; length = n }

abbrev pub hash_place : Option ℕ → List Span
hash_place (Some p) = at p 32 ∷ []
hash_place None = []

-- bytes as they stand
unfoldable pub raw_places : Packet → List Span
raw_places (P.Version v) = at v.remote.key 33 ∷ []
raw_places (P.GetBlocks l) = at l.stop 32 ∷ []
raw_places (P.GetHeaders l) = at l.stop 32 ∷ []
raw_places (P.Reject r) = hash_place r.hash
raw_places (P.GetBlockTxn q) = at q.block_hash 32 ∷ []
raw_places (P.GetProof p) = at p.root 32 ∷ at p.key 32 ∷ []
raw_places (P.Block k) = k ∷ []
raw_places (P.Tx k) = k ∷ []
raw_places (P.FilterLoad k) = k ∷ []
raw_places (P.FilterAdd k) = k ∷ []
raw_places (P.MerkleBlock k) = k ∷ []
raw_places (P.CmpctBlock k) = k ∷ []
raw_places (P.BlockTxn k) = k ∷ []
raw_places (P.Proof k) = k ∷ []
raw_places (P.Claim k) = k ∷ []
raw_places (P.Airdrop k) = k ∷ []
raw_places (P.Unknown t k) = k ∷ []
raw_places P.Verack = []
raw_places (P.Ping n) = []
raw_places (P.Pong n) = []
raw_places P.GetAddr = []
raw_places (P.Addr i) = []
raw_places (P.Inv i) = []
raw_places (P.GetData i) = []
raw_places (P.NotFound i) = []
raw_places (P.Headers i) = []
raw_places P.SendHeaders = []
raw_places P.Mempool = []
raw_places P.FilterClear = []
raw_places (P.FeeFilter n) = []
raw_places (P.SendCmpct m n) = []

-- ---- what the format reads there

-- keys, hashes and raw bytes of what a payload of n bytes reads as, in the order of the places
pub record Parts (w : Row) : Type 0 where
  pub parts : (n : ℕ) → Value (w.layout n) → List (List ℕ)

abbrev pub parts_by : {w : Row} → ((n : ℕ) → Value (w.layout n) → List (List ℕ)) → Parts w
parts_by f = record { parts = f }

abbrev pub no_parts : {w : Row} → Parts w
no_parts = parts_by (λ n v. [])

abbrev pub rejected_part : (b : Bool) → Value (choose b (raw 32) nothing) → List (List ℕ)
rejected_part true h = h ∷ []
rejected_part false u = []

-- types 0 to 29 in order
unfoldable pub columns : All Parts rows
unfolding rows
columns =
    parts_by (λ n v. v.1.1.1.1.0.1.1.1.1.1 ∷ [])
    & no_parts
    & no_parts
    & no_parts
    & no_parts
    & no_parts
    & no_parts
    & no_parts
    & no_parts
    & parts_by (λ n v. v.1 ∷ [])
    & parts_by (λ n v. v.1 ∷ [])
    & no_parts
    & no_parts
    & parts_by (λ n v. v ∷ [])
    & parts_by (λ n v. v ∷ [])
    & parts_by (λ n v. rejected_part (carries_hash v.0) v.1.1.1)
    & no_parts
    & parts_by (λ n v. v ∷ [])
    & parts_by (λ n v. v ∷ [])
    & no_parts
    & parts_by (λ n v. v ∷ [])
    & no_parts
    & no_parts
    & parts_by (λ n v. v ∷ [])
    & parts_by (λ n v. v.0 ∷ [])
    & parts_by (λ n v. v ∷ [])
    & parts_by (λ n v. v.0 ∷ v.1 ∷ [])
    & parts_by (λ n v. v ∷ [])
    & parts_by (λ n v. v ∷ [])
    & parts_by (λ n v. v ∷ [])
    & tt

unfoldable pub parts_of : (t : ℕ) → Parts (row t)
unfolding row
parts_of t = entry Parts rows (raw_bytes (P.Unknown t)) t columns (parts_by (λ n v. v ∷ []))

-- what stands at the places
abbrev pub standing : List ℕ → List Span → List (List ℕ)
standing s ks = map (λ k. part s k.start k.length) ks

-- of a payload s of type t that reads as the values v
pub record PlacesOf (t : ℕ) (s : List ℕ) (v : Value (layout t (length s))) : Type 0 where
  pub bytes : standing s (raw_places ((row t).packet s v)) ≡ (parts_of t).parts (length s) v
  -- the agent or reason stands inside the payload, and each of its bytes reads without its top bit
  pub inside : (text_span ((row t).packet s v)).start + (text_span ((row t).packet s v)).length ≤ length s
  pub text : (row t).text s v ≡ map low7 (part s (text_span ((row t).packet s v)).start (text_span ((row t).packet s v)).length)

-- `places_stand` of proofs/Places.antt: of every type and every payload that reads
abbrev pub PlacesStand : Type 0
PlacesStand = (t : ℕ) (s : List ℕ) (v : Value (layout t (length s))) (last : ℕ) → read_by (layout t) s ≡ got v last → PlacesOf t s v
