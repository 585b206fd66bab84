-- What `listing` answers: the list of a packet by what its items are; and what stands from its first place on.
use Rattle.std.specs.Prelude.{ℕ, ◌+◌, ◌*◌, ◌≤◌, ◌≡◌, refl, List, [], map, length, Ok, Err}
use Rattle.hns_refusals.specs.Refusals.{Answer}
use Rattle.hns_refusals.specs.Limits.{max_payload, block_header_size, max_indexes}
use Rattle.hns_encoding.specs.Bytes.{Bytes, Outcome, got, stop}
use Rattle.hns_encoding.specs.Format.{Format, raw, whole, Value, indexes_from, size, Fixed, values_at}
use Rattle.hns_header_consensus.specs.Layout.{header}
use Rattle.hns_p2p_types.specs.Protocol.{address, inventory_item}
use Rattle.hns_p2p_types.specs.declared.Items.{Items}
use Rattle.hns_p2p_types.specs.declared.Packet.{Packet}
use Rattle.hns_p2p_types.specs.declared.Packet.TheVariants as P
use Rattle.hns_p2p_types.specs.declared.Listing.{Listing}
use Rattle.hns_p2p_types.specs.declared.Listing.TheVariants as L
use Rattle.hns_p2p_rights.specs.Terms.{Terms}
use Rattle.hns_p2p_admission.specs.Reading.{packet_under}
use Rattle.hns_p2p_items.specs.Items.{Element, an_address, an_inventory, a_hash, a_header, an_index, Listed, listed_under}

unfoldable pub list_in : Packet → Listing
list_in (P.Addr x) = L.Addresses x
list_in (P.Inv x) = L.Inventory x
list_in (P.GetData x) = L.Inventory x
list_in (P.NotFound x) = L.Inventory x
list_in (P.GetBlocks x) = L.Hashes x.locator
list_in (P.GetHeaders x) = L.Hashes x.locator
list_in (P.Headers x) = L.Headers x
list_in (P.GetBlockTxn x) = L.Indexes x.indexes
list_in (P.Version x) = L.Nothing
list_in P.Verack = L.Nothing
list_in (P.Ping x) = L.Nothing
list_in (P.Pong x) = L.Nothing
list_in P.GetAddr = L.Nothing
list_in P.SendHeaders = L.Nothing
list_in (P.Block x) = L.Nothing
list_in (P.Tx x) = L.Nothing
list_in (P.Reject x) = L.Nothing
list_in P.Mempool = L.Nothing
list_in (P.FilterLoad x) = L.Nothing
list_in (P.FilterAdd x) = L.Nothing
list_in P.FilterClear = L.Nothing
list_in (P.MerkleBlock x) = L.Nothing
list_in (P.FeeFilter x) = L.Nothing
list_in (P.SendCmpct mode version) = L.Nothing
list_in (P.CmpctBlock x) = L.Nothing
list_in (P.BlockTxn x) = L.Nothing
list_in (P.GetProof x) = L.Nothing
list_in (P.Proof x) = L.Nothing
list_in (P.Claim x) = L.Nothing
list_in (P.Airdrop x) = L.Nothing
list_in (P.Unknown t x) = L.Nothing

-- the list of a packet that was read, or the refusal
abbrev pub list_by : Answer Packet → Answer Listing
list_by (Ok packet) = Ok (list_in packet)
list_by (Err r) = Err r

-- the list of a payload of a type that is read under terms
unfoldable pub listing_under : Terms → ℕ → List ℕ → Answer Listing
listing_under u t s = list_by (packet_under u t s)

-- ---- what stands at the place where a list begins

-- items of a fixed size, one after another from the first place on
pub record Records (f : Format) (x : Fixed f) (element : Value f → Element) (s : List ℕ) (i : Items) (l : Listed) : Type 0 where
  pub same : l.elements ≡ map element (values_at f x i.count s i.first)
  pub begins : l.first ≡ i.first
  pub inside : i.first + i.count * size f ≤ length s

-- indexes that are read from the first place on
pub record Indexed (s : List ℕ) (i : Items) (is : List ℕ) : Type 0 where
  pub last : ℕ
  pub reads : indexes_from i.count 0 s i.first ≡ got is last
  pub inside : i.first ≤ length s
  pub few : i.count ≤ max_indexes

pub record Indexes (s : List ℕ) (i : Items) (l : Listed) : Type 0 where
  pub indexes : List ℕ
  pub indexed : Indexed s i indexes
  pub same : l.elements ≡ map an_index indexes

abbrev pub Holds : List ℕ → Listing → Listed → Type 0
Holds s (L.Addresses i) l = Records address _ an_address s i l
Holds s (L.Inventory i) l = Records inventory_item _ an_inventory s i l
Holds s (L.Hashes i) l = Records (raw 32) _ a_hash s i l
Holds s (L.Headers i) l = Records (whole block_header_size header) (refl, _) a_header s i l
Holds s (L.Indexes i) l = Indexes s i l
Holds s L.Nothing l = l.elements ≡ []

-- a list is refused as the payload is, or holds its items
abbrev pub HeldBy : List ℕ → Answer Listing → Outcome Listed → Type 0
HeldBy s (Ok list) (got l last) = Holds s list l × (length s ≤ max_payload)
HeldBy s (Err r) (got l last) = ⊥
HeldBy s list (stop r) = list ≡ Err r

-- `held` of proofs/Held.antt: of every type and every payload, under any terms
abbrev pub ListingHolds : Type 0
ListingHolds = (u : Terms) (t : ℕ) (s : List ℕ) → Bytes s → HeldBy s (listing_under u t s) (listed_under u t s)
