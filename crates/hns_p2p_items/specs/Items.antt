-- Document 01, 'The packet', its paragraph on the finder: the items of a payload, which only the counted lists have (5 to 11, 24), and the item at a place.
use Rattle.std.specs.Prelude.{ℕ, zero, suc, ◌+◌, ◌*◌, ◌<◌, ◌≡◌, List, [], ◌∷◌, map, length, get_or, Ok, Err}
use Rattle.hns_refusals.specs.Limits.{block_header_size}
use Rattle.hns_refusals.specs.Refusals.{Answer, no_item}
use Rattle.hns_encoding.specs.Bytes.{part, Bytes, Outcome, got, stop, after, to_end}
use Rattle.hns_encoding.specs.Compact.{compact_bytes}
use Rattle.hns_encoding.specs.Format.{raw, whole, Value, read, size, All}
use Rattle.hns_header_consensus.specs.Layout.{header}
use Rattle.hns_p2p_types.specs.Protocol.{address, inventory_item, read_by}
use Rattle.hns_p2p_types.specs.declared.NetAddress.{NetAddress}
use Rattle.hns_p2p_types.specs.declared.Packet.TheVariants as P
use Rattle.hns_p2p_types.specs.declared.Item.{Item}
use Rattle.hns_p2p_types.specs.declared.Item.TheVariants as I
use Rattle.hns_p2p_types.specs.Packets.{address_at, Row, rows, raw_bytes, row, layout, ◌&◌, entry}
use Rattle.hns_p2p_rights.specs.Terms.{Terms}
use Rattle.hns_p2p_admission.specs.Reading.{read_under}

-- ---- the items

-- an item is what one format under a count reads as
pub data Element : Type 0 where
  an_address : Value address → Element
  an_inventory : Value inventory_item → Element
  a_hash : Value (raw 32) → Element
  a_header : Value (whole block_header_size header) → Element
  an_index : ℕ → Element

-- the items of a payload in order, and where the first one begins
pub record Listed : Type 0 where
  pub first : ℕ
  pub elements : List Element

-- items whose count stands at a place
abbrev pub under : ℕ → List Element → Listed
under at es = record { first = at + length (compact_bytes (length es)); elements = es }

-- a column of the table by type: the items, from what a payload of n bytes reads as
pub record RowItems (w : Row) : Type 0 where
  pub listed : (n : ℕ) → Value (w.layout n) → Listed

-- a row without a count
abbrev pub none : {w : Row} → RowItems w
none = record { listed = λ n v. under 0 [] }

abbrev pub row_by : {w : Row} → ((n : ℕ) → Value (w.layout n) → Listed) → RowItems w
row_by f = record { listed = f }

-- a payload that begins with its count
abbrev pub items : {A : Type 0} → (A → Element) → List A → Listed
items element v = under 0 (map element v)

-- types 0 to 29 in order. The stop hash of a locator is no item; the count of an index list stands after a hash.
unfoldable pub row_items : All RowItems rows
unfolding rows
row_items =
    none
    & none
    & none
    & none
    & none
    & row_by (λ n v. items an_address v)
    & row_by (λ n v. items an_inventory v)
    & row_by (λ n v. items an_inventory v)
    & row_by (λ n v. items an_inventory v)
    & row_by (λ n v. items a_hash v.0)
    & row_by (λ n v. items a_hash v.0)
    & row_by (λ n v. items a_header v)
    & none
    & none
    & none
    & none
    & none
    & none
    & none
    & none
    & none
    & none
    & none
    & none
    & row_by (λ n v. under 32 (map an_index v.1))
    & none
    & none
    & none
    & none
    & none
    & tt

-- 30 to 255: none
unfoldable pub items_by : (t : ℕ) → RowItems (row t)
unfolding row
items_by t = entry RowItems rows (raw_bytes (P.Unknown t)) t row_items none

-- the items of what a payload of a type reads as, or the refusal
abbrev pub listed_by : (t : ℕ) (s : List ℕ) → Outcome (Value (layout t (length s))) → Outcome Listed
listed_by t s o = after o (λ v last. got ((items_by t).listed (length s) v) last)

unfoldable pub listed_of : ℕ → List ℕ → Outcome Listed
listed_of t s = listed_by t s (read_by (layout t) s)

-- the same of a payload that is read under terms
unfoldable pub listed_under : Terms → ℕ → List ℕ → Outcome Listed
listed_under u t s = listed_by t s (read_under u t s)

-- ---- the answer

-- how many bytes an item takes; an index is answered by itself, without a place
abbrev pub size_of : Element → ℕ
size_of (an_address v) = size address
size_of (an_inventory v) = size inventory_item
size_of (a_hash v) = size (raw 32)
size_of (a_header v) = block_header_size
size_of (an_index i) = 0

-- the answer of an item whose bytes begin at a place; the hash of an inventory item stands after its kind of 4 bytes
abbrev pub answer : ℕ → Element → Item
answer at (an_address v) = I.Address (address_at at v)
answer at (an_inventory v) = I.Inventory v.0 (at + 4)
answer at (a_hash v) = I.Hash at
answer at (a_header v) = I.Header at
answer at (an_index i) = I.Index i

-- what is made of the element at a place, or something else where there is none
abbrev pub pick : {A B : Type 0} → (A → B) → B → List A → ℕ → B
pick f other [] k = other
pick f other (a ∷ xs) zero = f a
pick f other (a ∷ xs) (suc k) = pick f other xs k

-- items of one payload are all of one size
abbrev pub answer_at : Listed → ℕ → Element → Item
answer_at l k e = answer (l.first + k * size_of e) e

-- the payload's own refusal first, then 19
abbrev pub item_by : ℕ → Outcome Listed → Answer Item
item_by k (got l last) = pick (λ e. Ok (answer_at l k e)) (Err no_item) l.elements k
item_by k (stop r) = Err r

-- the item at place k, from 0 on, of a payload s of type t; no output is lent, so that 16 is no refusal here
unfoldable pub item_of : ℕ → List ℕ → ℕ → Answer Item
item_of t s k = item_by k (listed_of t s)

unfoldable pub item_under : Terms → ℕ → List ℕ → ℕ → Answer Item
item_under u t s k = item_by k (listed_under u t s)

-- ---- what stands at an answered place

-- an item's bytes stand at the places of its answer
pub data Stands (s : List ℕ) : Element → Answer Item → Type 0 where
  key_there : {v : Value address} {a : NetAddress} → part s a.key 33 ≡ v.1.1.1.1.1 → Stands s (an_address v) (Ok (I.Address a))
  hash_there : {v : Value inventory_item} {p : ℕ} → part s p 32 ≡ v.1 → Stands s (an_inventory v) (Ok (I.Inventory v.0 p))
  bytes_there : {v : List ℕ} {p : ℕ} → part s p 32 ≡ v → Stands s (a_hash v) (Ok (I.Hash p))
  header_there : {v : Value header} {p : ℕ} → to_end (read header) (part s p block_header_size) ≡ got v block_header_size → Stands s (a_header v) (Ok (I.Header p))
  index_there : {i : ℕ} → Stands s (an_index i) (Ok (I.Index i))

-- `stands` of proofs/Items.antt
abbrev pub ItemsStand : Type 0
ItemsStand = (t : ℕ) (s : List ℕ) → Bytes s → (l : Listed) (last : ℕ) → listed_of t s ≡ got l last → (k : ℕ) → k < length l.elements → (d : Element) → Stands s (get_or l.elements k d) (item_of t s k)
