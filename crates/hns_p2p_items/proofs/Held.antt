-- The list that the code answers is the list of the payload's items: they stand one after another from its first place on, or are an index list. Assumes nothing.
use Prim.Native.Nat.{ℕ, zero, suc, ◌+◌, ◌*◌, ◌≤◌}
use mathlib.Core.Path.{◌≡◌, refl, sym, ap, ◌∙◌, subst}
use mathlib.Core.List.{List, [], ◌∷◌, map}
use native.Mathlib.Omega.{arith}
use lib.ListN.{length, get_or, length-map}
use lib.Dec.{leb}
use borrow.Author.Tests.{leb-true}
use Rattle.hns_encoding.proofs.Blocks.{length_values}
use Rattle.std.specs.Prelude.{Ok, Err}
use Rattle.hns_refusals.specs.declared.Refusal.{Refusal}
use Rattle.hns_refusals.specs.Refusals.{Answer}
use Rattle.hns_refusals.specs.Limits.{max_payload, block_header_size, max_addresses, max_inventory, max_locator, max_headers, max_indexes}
use Rattle.hns_refusals.specs.Refusals.{address_field, inventory_field, locator_field, header_field, index_count_field}
use Rattle.hns_encoding.specs.Bytes.{Bytes, Outcome, got, stop, left, bytes_at, to_end}
use Rattle.hns_encoding.specs.Compact.{compact_bytes, count_at}
use Rattle.hns_encoding.specs.Format.{Format, raw, counted, indexes, whole, Value, read, many, indexes_from, widths, size, Fixed, All, values_at}
use Rattle.hns_encoding.proofs.Outcomes.{after_got, choose_got, bytes_got, to_end_got, count_got}
use Rattle.hns_encoding.proofs.Forward.{compact_got}
use Rattle.hns_header_consensus.specs.Layout.{header}
use Rattle.hns_p2p_types.specs.Protocol.{address, inventory_item, locator, getblocktxn}
use Rattle.hns_p2p_types.specs.declared.Listing.{Listing}
use Rattle.hns_p2p_types.specs.declared.Listing.TheVariants as L
use Rattle.hns_p2p_types.specs.declared.Packet.TheVariants as P
use Rattle.hns_p2p_types.specs.Packets.{Row, rows, raw_bytes, row, layout, answered, items_at, ◌&◌, entry}
use Rattle.hns_p2p_rights.specs.Terms.{Terms}
use Rattle.hns_p2p_admission.specs.Reading.{read_under, packet_under}
use Rattle.hns_p2p_admission.proofs.Admitted.{under_got}
use Rattle.hns_p2p_lists.specs.Helpers.{records_at}
use Rattle.hns_p2p_lists.proofs.Lists.{many_fits, records}
use Rattle.hns_p2p_lists.proofs.Listed.{count_place, list_stands}
use Rattle.hns_p2p_lists.proofs.Requests.{index_count}
use Rattle.hns_p2p_items.specs.Items.{Element, an_address, an_inventory, a_hash, a_header, Listed, under, items, RowItems, none, row_items, items_by, listed_by, listed_under}
use Rattle.hns_p2p_items.specs.Listings.{list_in, list_by, listing_under, Records, Indexed, Holds, HeldBy, ListingHolds}
use Rattle.hns_p2p_items.specs.Helpers.{items_in}

-- ---- lists of items of a fixed size

module _ (limit field : ℕ) (f : Format) (x : Fixed f) (s : List ℕ) (bs : Bytes s) (v : List (Value f)) {last : ℕ} (e : read (counted limit field f) s 0 ≡ got v last) where
  inside_of : (n p : ℕ) → count_at limit field s 0 ≡ got n p → many n (read f) s p ≡ got v last → (items_at 0 v).first + (items_at 0 v).count * size f ≤ length s
  unfolding records_at
  inside_of n p counts e =
      let g = after_got (records_at n (widths f) s p) _ (sym (records f x s n p) ∙ e) in
      let fits = leb-true (n * size f) (left s p) (choose_got (leb (n * size f) (left s p)) _ _ g.2).0 in
      let all = many_fits f x s n p fits in
      let values : v ≡ values_at f x n s p = cc in
      let long : length v ≡ n = ap length values ∙ length_values f x n s p in
      let inside = (compact_got s bs 0 n p (count_got limit field s 0 counts).0).inside in
      let end : p + n * size f ≤ length s = omega arith in
      rw (long, ← count_place s bs limit field 0 counts) end

  list_inside : (items_at 0 v).first + (items_at 0 v).count * size f ≤ length s
  unfolding read
  list_inside = let h = after_got (count_at limit field s 0) _ e in inside_of h.0 h.1 h.2 h.3

  list_holds : (element : Value f → Element) → Records f x element s (items_at 0 v) (items element v)
  list_holds element =
      record {
        same = ap (map element) (list_stands limit field f x s bs v last e);
        begins = ap (λ (k : ℕ). 0 + length (compact_bytes k)) (length-map v element);
        inside = list_inside;
      }

-- ---- index lists

-- the indexes that a payload reads as are read from the place after their count on
pub indexed_there : (s : List ℕ) → Bytes s → (v : Value getblocktxn) {last : ℕ} → read getblocktxn s 0 ≡ got v last → Indexed s (items_at 32 v.1) v.1
unfolding read
indexed_there s bs v e =
    let g = after_got (bytes_at 32 s 0) _ e in
    let k = after_got (read indexes s g.1) _ g.3 in
    let same : (g.0, k.0) ≡ v = cc k.3 in
    let at-32 : read indexes s 32 ≡ got v.1 k.1 = ap (read indexes s) (sym (bytes_got 32 s 0 g.2).1) ∙ (k.2 ∙ ap (λ (w : Value getblocktxn). got w.1 k.1) same) in
    let c = after_got (count_at max_indexes index_count_field s 32) _ at-32 in
    counted_there c.0 c.1 k.1 c.2 c.3
  where
    counted_there : (n p end : ℕ) → count_at max_indexes index_count_field s 32 ≡ got n p → indexes_from n 0 s p ≡ got v.1 end → Indexed s (items_at 32 v.1) v.1
    counted_there n p end e r =
        let m = count_got max_indexes index_count_field s 32 e in
        let long : length v.1 ≡ n = index_count n 0 s p r in
        let there : 32 + length (compact_bytes (length v.1)) ≡ p = ap (λ (k : ℕ). 32 + length (compact_bytes k)) long ∙ sym (count_place s bs max_indexes index_count_field 32 e) in
        record { last = end; reads = rw (there, long) r; inside = rw there (compact_got s bs 32 n p m.0).inside; few = rw long m.1 }

-- ---- every row

pub record Held (w : Row) (l : RowItems w) : Type 0 where
  pub holds : (s : List ℕ) → Bytes s → (v : Value (w.layout (length s))) (last : ℕ) → to_end (read (w.layout (length s))) s ≡ got v last → Holds s (list_in (w.packet s v)) (l.listed (length s) v)

abbrev Both : {A : Type 0} (B : A → Type 0) (C : (a : A) → B a → Type 0) (l : List A) → All B l → Type 0
Both B C [] h = Unit {0}
Both B C (a ∷ l) h = C a h.0 × Both B C l h.1

both_at : {A : Type 0} (B : A → Type 0) (C : (a : A) → B a → Type 0) (l : List A) (d : A) (t : ℕ) (h : All B l) (k : B d) → Both B C l h → C d k → C (get_or l t d) (entry B l d t h k)
both_at B C [] d t h k x y = y
both_at B C (a ∷ l) d zero h k x y = x.0
both_at B C (a ∷ l) d (suc t) h k x y = both_at B C l d t h.1 k x.1 y

locator_list : (s : List ℕ) (v : Value locator) {last : ℕ} → read locator s 0 ≡ got v last → (n : ℕ) × (read (counted max_locator locator_field (raw 32)) s 0 ≡ got v.0 n)
unfolding read
locator_list s v e =
    let g = after_got (read (counted max_locator locator_field (raw 32)) s 0) _ e in
    let k = after_got (read (raw 32) s g.1) _ g.3 in
    let same : (g.0, k.0) ≡ v = cc k.3 in
    (g.1, g.2 ∙ ap (λ (w : Value locator). got w.0 g.1) same)

-- a row that is no list
plain : {w : Row} → ((s : List ℕ) (v : Value (w.layout (length s))) → L.Nothing ≡ list_in (w.packet s v)) → Held w none
plain a = record { holds = λ s bs v last e. subst (λ (l : Listing). Holds s l (under 0 [])) (a s v) refl }

all_held : Both RowItems Held rows row_items
unfolding rows row_items list_in
all_held =
    plain (λ s v. refl)
    & plain (λ s v. refl)
    & plain (λ s v. refl)
    & plain (λ s v. refl)
    & plain (λ s v. refl)
    & record { holds = λ s bs v last e. list_holds max_addresses address_field address _ s bs v (to_end_got _ s e).0 an_address }
    & record { holds = λ s bs v last e. list_holds max_inventory inventory_field inventory_item _ s bs v (to_end_got _ s e).0 an_inventory }
    & record { holds = λ s bs v last e. list_holds max_inventory inventory_field inventory_item _ s bs v (to_end_got _ s e).0 an_inventory }
    & record { holds = λ s bs v last e. list_holds max_inventory inventory_field inventory_item _ s bs v (to_end_got _ s e).0 an_inventory }
    & record { holds = λ s bs v last e. list_holds max_locator locator_field (raw 32) _ s bs v.0 (locator_list s v (to_end_got (read locator) s e).0).1 a_hash }
    & record { holds = λ s bs v last e. list_holds max_locator locator_field (raw 32) _ s bs v.0 (locator_list s v (to_end_got (read locator) s e).0).1 a_hash }
    & record { holds = λ s bs v last e. list_holds max_headers header_field (whole block_header_size header) (refl, _) s bs v (to_end_got _ s e).0 a_header }
    & plain (λ s v. refl)
    & plain (λ s v. refl)
    & plain (λ s v. refl)
    & plain (λ s v. refl)
    & plain (λ s v. refl)
    & plain (λ s v. refl)
    & plain (λ s v. refl)
    & plain (λ s v. refl)
    & plain (λ s v. refl)
    & plain (λ s v. refl)
    & plain (λ s v. refl)
    & plain (λ s v. refl)
    & record { holds = λ s bs v last e. record { indexes = v.1; indexed = indexed_there s bs v (to_end_got (read getblocktxn) s e).0; same = refl } }
    & plain (λ s v. refl)
    & plain (λ s v. refl)
    & plain (λ s v. refl)
    & plain (λ s v. refl)
    & plain (λ s v. refl)
    & tt

row_held : (t : ℕ) → Held (row t) (items_by t)
unfolding row items_by list_in
row_held t = both_at RowItems Held rows (raw_bytes (P.Unknown t)) t row_items none all_held (plain (λ s v. refl))

-- ---- a payload

-- of any reading that gives what the fields read as, of no more bytes than a payload may have
pub held_from : (t : ℕ) (s : List ℕ) → Bytes s → (q : Outcome (Value (layout t (length s))))
    → ((v : Value (layout t (length s))) (last : ℕ) → q ≡ got v last → (length s ≤ max_payload) × (to_end (read (layout t (length s))) s ≡ got v last))
    → HeldBy s (list_by (answered ((row t).packet s) q)) (listed_by t s q)
unfolding list_in
held_from t s bs (got v last) reads =
    let k = reads v last refl in
    ((row_held t).holds s bs v last k.1, k.0)
held_from t s bs (stop r) reads = refl

pub held : ListingHolds
unfolding listing_under listed_under packet_under
held u t s bs = held_from t s bs (read_under u t s) (λ v last e. (let g = under_got u t s e in (g.small, g.whole)))

-- the items of a payload whose list is answered
pub record There (s : List ℕ) (list : Listing) (o : Outcome Listed) : Type 0 where
  pub listed : Listed
  pub last : ℕ
  pub is : o ≡ got listed last
  pub holds : Holds s list listed
  pub small : length s ≤ max_payload

there_by : (s : List ℕ) (o : Outcome Listed) {list : Answer Listing} {x : Listing} → HeldBy s list o → list ≡ Ok x → There s x o
there_by s (got l last) {x = x} h e = let k : HeldBy s (Ok x) (got l last) = subst (λ (q : Answer Listing). HeldBy s q (got l last)) e h in record { listed = l; last = last; is = refl; holds = k.0; small = k.1 }
there_by s (stop r) h e = cc

pub refused_held : (s : List ℕ) {list : Answer Listing} {r : Refusal} (o : Outcome Listed) → HeldBy s list o → list ≡ Err r → o ≡ stop r
refused_held s {r = r} (got l last) x e = absurd (subst (λ (q : Answer Listing). HeldBy s q (got l last)) e x)
refused_held s (stop q) x e = cc

module _ (u : Terms) (t : ℕ) (s : List ℕ) (bs : Bytes s) {list : Answer Listing} (e : list ≡ listing_under u t s) where
  held_by : HeldBy s list (listed_under u t s)
  held_by = subst (λ (q : Answer Listing). HeldBy s q (listed_under u t s)) (sym e) (held u t s bs)

  pub there : {x : Listing} → list ≡ Ok x → There s x (listed_under u t s)
  there g = there_by s (listed_under u t s) held_by g

  pub away : {r : Refusal} → list ≡ Err r → listed_under u t s ≡ stop r
  away g = refused_held s (listed_under u t s) held_by g

-- the places of the items are numbers of 64 bits
pub room : (s : List ℕ) (list : Listing) (o : Outcome Listed) → There s list o → ((items_in list).first ≤ max_payload) × ((items_in list).count ≤ max_payload)
unfolding items_in
room s (L.Addresses i) o h = (omega (arith, h.holds.inside, h.small), omega (arith, h.holds.inside, h.small))
room s (L.Inventory i) o h = (omega (arith, h.holds.inside, h.small), omega (arith, h.holds.inside, h.small))
room s (L.Hashes i) o h = (omega (arith, h.holds.inside, h.small), omega (arith, h.holds.inside, h.small))
room s (L.Headers i) o h = (omega (arith, h.holds.inside, h.small), omega (arith, h.holds.inside, h.small))
room s (L.Indexes i) o h = (omega (arith, h.holds.indexed.inside, h.small), omega (arith, h.holds.indexed.few))
room s L.Nothing o h = (omega arith, omega arith)
