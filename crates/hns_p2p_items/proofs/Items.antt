-- An item of a payload: the code's answer from the places is the definition's, and the item's bytes stand at the answered places. Assumes nothing.
use Prim.Native.Nat.{ℕ, zero, suc, ◌+◌, ◌*◌, ◌≤◌, ◌<◌}
use mathlib.Core.Path.{◌≡◌, refl, sym, ap, ◌∙◌, subst, subst₂}
use mathlib.Core.List.{List, [], ◌∷◌, map}
use native.Mathlib.Omega.{arith}
use native.Mathlib.Nat.{suc-mul, mul-le-mul_right}
use native.Mathlib.Numerals.{add-one}
use lib.ListN.{length, get_or, length-map}
use lib.Dec.{leb}
use borrow.Author.Tests.{leb-true}
use Rattle.std.specs.Prelude.{Ok, Err, MatchResult, IsOkAnd}
use Rattle.hns_refusals.specs.declared.Refusal.{Refusal}
use Rattle.hns_refusals.specs.Limits.{max_payload, block_header_size, max_index}
use Rattle.hns_refusals.specs.Refusals.{Answer, no_item, index_field}
use Rattle.hns_encoding.specs.Bytes.{part, Bytes, got, to_end}
use Rattle.hns_encoding.specs.Compact.{count_at}
use Rattle.hns_encoding.specs.Format.{Format, Value, read, indexes_from, size, Fixed, fixed_flat, value_at, values_at}
use Rattle.hns_encoding.specs.Answers.{result_of}
use Rattle.hns_encoding.proofs.Numbers.{part_length}
use Rattle.hns_encoding.proofs.Outcomes.{after_got, choose_got, to_end_fits}
use Rattle.hns_encoding.proofs.Blocks.{block_fits, length_values}
use Rattle.hns_header_consensus.specs.Layout.{header}
use Rattle.hns_p2p_types.specs.declared.Items.{Items}
use Rattle.hns_p2p_types.specs.declared.Item.{Item}
use Rattle.hns_p2p_types.specs.declared.Item.TheVariants as I
use Rattle.hns_p2p_types.specs.declared.Listing.{Listing}
use Rattle.hns_p2p_types.specs.declared.Listing.TheVariants as L
use Rattle.hns_p2p_types.specs.declared.Packet.{Packet}
use Rattle.hns_p2p_types.specs.Protocol.{read_by}
use Rattle.hns_p2p_types.specs.Packets.{row, layout, answered}
use Rattle.hns_p2p_types.proofs.Payloads.{by_got}
use Rattle.hns_p2p_rights.specs.Terms.{Terms}
use Rattle.hns_p2p_admission.specs.Reading.{packet_under}
use Rattle.hns_p2p_blocks.proofs.Addresses.{address_is}
use Rattle.hns_p2p_differences.specs.declared.Passed.{Passed}
use Rattle.hns_p2p_differences.specs.Passing.{passed_of}
use Rattle.hns_p2p_differences.specs.Helpers.{passed_after}
use Rattle.hns_p2p_lists.proofs.Lists.{value_stands}
use Rattle.hns_p2p_differences.proofs.Passing.{passed_first, index_next, indexes_end}
use Rattle.hns_p2p_lists.proofs.Requests.{index_count}
use Rattle.hns_p2p_items.specs.Items.{Element, an_index, Listed, size_of, answer, pick, answer_at, item_by, item_of, item_under, listed_of, listed_under, Stands, key_there, hash_there, bytes_there, header_there, index_there, ItemsStand}
use Rattle.hns_p2p_items.specs.Listings.{list_in, list_by, listing_under, Records, Indexes, Holds, HeldBy}
use Rattle.hns_p2p_items.specs.Helpers.{items_in, last_item, index_in, item_in}
use Rattle.hns_p2p_items.proofs.Held.{held_from, there, away, room}

-- ---- the element at a place

module _ {A B : Type 0} (f : A → B) (other : B) where
  pick_there : (xs : List A) (k : ℕ) (d : A) → k < length xs → pick f other xs k ≡ f (get_or xs k d)
  pick_there [] k d h = absurd (omega arith)
  pick_there (x ∷ xs) zero d h = refl
  pick_there (x ∷ xs) (suc k) d h = pick_there xs k d (omega arith)

  pick_past : (xs : List A) (k : ℕ) → length xs ≤ k → pick f other xs k ≡ other
  pick_past [] k h = refl
  pick_past (x ∷ xs) zero h = absurd (omega arith)
  pick_past (x ∷ xs) (suc k) h = pick_past xs k (omega arith)

get_d_map : {A B : Type 0} (f : A → B) (xs : List A) (k : ℕ) (z : A) (d : B) → k < length xs → get_or (map f xs) k d ≡ f (get_or xs k z)
get_d_map f [] k z d h = absurd (omega arith)
get_d_map f (x ∷ xs) zero z d h = refl
get_d_map f (x ∷ xs) (suc k) z d h = get_d_map f xs k z d (omega arith)

-- an item of a fixed size, from its own place on
module _ {f : Format} {x : Fixed f} {element : Value f → Element} {s : List ℕ} {i : Items} {l : Listed} (r : Records f x element s i l) where
  pub records_many : length l.elements ≡ i.count
  records_many = ap length r.same ∙ (length-map (values_at f x i.count s i.first) element ∙ length_values f x i.count s i.first)

  module _ (k : ℕ) (h : k < i.count) where
    abbrev place : ℕ
    place = i.first + k * size f

    record_inside : place + size f ≤ length s
    record_inside =
        let more : suc k * size f ≡ k * size f + size f = suc-mul k (size f) in
        let most : suc k * size f ≤ i.count * size f = mul-le-mul_right (size f) h in
        omega (arith, r.inside)

    pub nth_record : (d : Element) → get_or l.elements k d ≡ element (value_at f (fixed_flat f x) s place)
    nth_record d =
        let z : Value f = value_at f (fixed_flat f x) s 0 in
        ap (λ (es : List Element). get_or es k d) r.same
        ∙ (get_d_map element (values_at f x i.count s i.first) k z d (rw (length_values f x i.count s i.first) h)
        ∙ ap element (value_stands f x i.count s i.first k z h))

    record_answer : ((v : Value f) → size_of (element v) ≡ size f) → (d : Element) → answer_at l k (get_or l.elements k d) ≡ answer place (element (value_at f (fixed_flat f x) s place))
    record_answer sized d =
        let v = value_at f (fixed_flat f x) s place in
        ap (answer_at l k) (nth_record d) ∙ (ap (λ (n : ℕ). answer (n + k * size_of (element v)) (element v)) r.begins ∙ ap (λ (n : ℕ). answer (i.first + k * n) (element v)) (sized v))

-- ---- indexes

-- an index list that is read is its first index and the list that follows
pub record First (n base : ℕ) (s : List ℕ) (p : ℕ) (is : List ℕ) : Type 0 where
  pub d : ℕ
  pub next : ℕ
  pub end : ℕ
  pub rest : List ℕ
  pub difference : count_at max_index index_field s p ≡ got d next
  pub small : base + d ≤ max_index
  pub reads : indexes_from n (base + d + 1) s next ≡ got rest end
  pub same : (base + d) ∷ rest ≡ is

pub first_of : (n base : ℕ) (s : List ℕ) (p : ℕ) {is : List ℕ} {last : ℕ} → indexes_from (suc n) base s p ≡ got is last → First n base s p is
first_of n base s p {is} e =
    let g = after_got (count_at max_index index_field s p) _ e in
    let c = choose_got (leb (base + g.0) max_index) _ _ g.3 in
    let m = after_got (indexes_from n (base + g.0 + 1) s g.1) _ c.1 in
    record { d = g.0; next = g.1; end = m.1; rest = m.0; difference = g.2; small = leb-true _ _ c.0; reads = m.2; same = cc m.3 }

-- it is passed first
first_passed : (k before : ℕ) {n base : ℕ} {s : List ℕ} {p : ℕ} {is : List ℕ} (g : First n base s p is) → passed_after before (indexes_from (suc k) base s p) ≡ passed_after (base + g.d) (indexes_from k (base + g.d + 1) s g.next)
unfolding result_of
first_passed k before {base = base} {s} {p} g = index_next k before base s p {read = Ok (g.d, g.next)} (sym (ap result_of g.difference)) refl g.small

-- the index at a place is the last of as many and one more
nth_index : (k n before base : ℕ) (s : List ℕ) (p : ℕ) {is : List ℕ} {last : ℕ} → indexes_from n base s p ≡ got is last → k < n → last_item (passed_after before (indexes_from (suc k) base s p)) ≡ Ok (I.Index (get_or is k 0))
nth_index k zero before base s p e h = absurd (omega arith)
nth_index zero (suc n) before base s p e h =
    let g = first_of n base s p e in
    ap last_item (first_passed 0 before g ∙ indexes_end (base + g.d) (base + g.d + 1) s g.next) ∙ ap (λ (js : List ℕ). Ok (I.Index (get_or js 0 0))) g.same
nth_index (suc k) (suc n) before base s p e h =
    let g = first_of n base s p e in
    ap last_item (first_passed (suc k) before g) ∙ (nth_index k n (base + g.d) (base + g.d + 1) s g.next g.reads (omega arith) ∙ ap (λ (js : List ℕ). Ok (I.Index (get_or js (suc k) 0))) g.same)

module _ {s : List ℕ} {i : Items} {l : Listed} (r : Indexes s i l) where
  indexes_many : length r.indexes ≡ i.count
  indexes_many = index_count i.count 0 s i.first r.indexed.reads

  nth_of_indexes : (k : ℕ) → k < i.count → (d : Element) → get_or l.elements k d ≡ an_index (get_or r.indexes k 0)
  nth_of_indexes k h d = ap (λ (es : List Element). get_or es k d) r.same ∙ get_d_map an_index r.indexes k 0 d (rw indexes_many h)

  index_law : (k : ℕ) → k < i.count → (d : Element) → index_in s i.first k ≡ Ok (answer_at l k (get_or l.elements k d))
  unfolding index_in
  index_law k h d = rw (passed_first, add-one) (nth_index k i.count 0 0 s i.first r.indexed.reads h) ∙ sym (ap (λ (e : Element). Ok (answer_at l k e)) (nth_of_indexes k h d))

-- ---- the code's answer is the definition's

pub list_read : (u : Terms) (t : ℕ) (s : List ℕ) {packet : Answer Packet} {list : Answer Listing} → packet ≡ packet_under u t s → MatchResult packet (λ p. IsOkAnd list (λ l. l ≡ list_in p)) (λ r. list ≡ Err r) → list ≡ listing_under u t s
unfolding listing_under
list_read u t s {packet} {list} e m = rw (← e) (go packet list m)
  where
    go : (packet : Answer Packet) (list : Answer Listing) → MatchResult packet (λ p. IsOkAnd list (λ l. l ≡ list_in p)) (λ r. list ≡ Err r) → list ≡ list_by packet
    go (Ok p) (Ok l) m = ap Ok m
    go (Ok p) (Err r) m = absurd m
    go (Err r) list m = m

module _ (s : List ℕ) (first k : ℕ) {passed : Answer Passed} (e : passed ≡ passed_of (indexes_from (k + 1) 0 s first)) where
  pub index_read : {to : Passed} → passed ≡ Ok to → Ok (I.Index to.last) ≡ index_in s first k
  unfolding index_in
  index_read g = ap last_item (sym g ∙ e)

  pub index_refused : {r : Refusal} → passed ≡ Err r → Err r ≡ index_in s first k
  unfolding index_in
  index_refused g = ap last_item (sym g ∙ e)

as_many : (s : List ℕ) (list : Listing) (l : Listed) → Holds s list l → length l.elements ≡ (items_in list).count
unfolding items_in
as_many s (L.Addresses i) l r = records_many r
as_many s (L.Inventory i) l r = records_many r
as_many s (L.Hashes i) l r = records_many r
as_many s (L.Headers i) l r = records_many r
as_many s (L.Indexes i) l r = ap length r.same ∙ (length-map r.indexes an_index ∙ indexes_many r)
as_many s L.Nothing l r = ap length r

item_law : (s : List ℕ) (list : Listing) (l : Listed) → Holds s list l → (k : ℕ) → k < (items_in list).count → (d : Element) → item_in s list (items_in list).first k ≡ Ok (answer_at l k (get_or l.elements k d))
unfolding items_in item_in
item_law s (L.Addresses i) l r k h d = ap Ok (ap I.Address (address_is s (i.first + k * 88) (omega (arith, record_inside r k h))) ∙ sym (record_answer r k h (λ v. refl) d))
item_law s (L.Inventory i) l r k h d = sym (ap Ok (record_answer r k h (λ v. refl) d))
item_law s (L.Hashes i) l r k h d = sym (ap Ok (record_answer r k h (λ v. refl) d))
item_law s (L.Headers i) l r k h d = sym (ap Ok (record_answer r k h (λ v. refl) d))
item_law s (L.Indexes i) l r k h d = index_law r k h d
item_law s L.Nothing l r k h d = absurd (omega arith)

module _ (u : Terms) (t : ℕ) (s : List ℕ) (bs : Bytes s) (k : ℕ) {list : Answer Listing} (e : list ≡ listing_under u t s) where
  pub item_refused : {r : Refusal} → list ≡ Err r → Err r ≡ item_under u t s k
  unfolding item_under
  item_refused g = ap (item_by k) (sym (away u t s bs e g))

  module _ {x : Listing} (g : list ≡ Ok x) {i : Items} (q : i ≡ items_in x) where
    pub item_room : k < i.count → (i.first ≤ max_payload) × (k ≤ max_payload)
    item_room h =
        let m = room s x (listed_under u t s) (there u t s bs e g) in
        let n : k < (items_in x).count = rw q at h in
        rw q (m.0, omega (arith, m.1))

    pub item_there : k < i.count → {item : Answer Item} → item ≡ item_in s x i.first k → item ≡ item_under u t s k
    unfolding item_under items_in
    item_there h f =
        let o = there u t s bs e g in
        let n = as_many s x o.listed o.holds in
        let c : k < (items_in x).count = rw q at h in
        f ∙ (ap (λ (j : Items). item_in s x j.first k) q ∙ (item_law s x o.listed o.holds k c (an_index 0)
        ∙ sym (ap (item_by k) o.is ∙ pick_there (λ (e : Element). Ok (answer_at o.listed k e)) (Err no_item) o.listed.elements k (an_index 0) (omega arith))))

    pub item_past : i.count ≤ k → Err no_item ≡ item_under u t s k
    unfolding item_under
    item_past h =
        let o = there u t s bs e g in
        let n = as_many s x o.listed o.holds in
        let m : (items_in x).count ≤ k = rw q at h in
        sym (ap (item_by k) o.is ∙ pick_past (λ (e : Element). Ok (answer_at o.listed k e)) (Err no_item) o.listed.elements k (omega arith))

-- ---- what stands at the places

header_stands : (s : List ℕ) (q : ℕ) → q + block_header_size ≤ length s → to_end (read header) (part s q block_header_size) ≡ got (value_at header _ (part s q block_header_size) 0) block_header_size
header_stands s q h =
    let long = part_length s q block_header_size (omega arith) in
    to_end_fits (read header) (part s q block_header_size) (block_fits header _ (part s q block_header_size) 0 (omega arith)) (omega arith)

element_stands : (s : List ℕ) (list : Listing) (l : Listed) → Holds s list l → (k : ℕ) → k < (items_in list).count → (d : Element) → Stands s (get_or l.elements k d) (Ok (answer_at l k (get_or l.elements k d)))
unfolding items_in
element_stands s (L.Addresses i) l r k h d =
    let q = i.first + k * 88 in
    let p55 : q + 8 + 4 + 4 + 37 + 2 ≡ q + 55 = omega arith in
    subst₂ (λ (e : Element) (a : Item). Stands s e (Ok a)) (sym (nth_record r k h d)) (sym (record_answer r k h (λ v. refl) d)) (key_there (ap (λ (p : ℕ). part s p 33) (sym p55)))
element_stands s (L.Inventory i) l r k h d = subst₂ (λ (e : Element) (a : Item). Stands s e (Ok a)) (sym (nth_record r k h d)) (sym (record_answer r k h (λ v. refl) d)) (hash_there refl)
element_stands s (L.Hashes i) l r k h d = subst₂ (λ (e : Element) (a : Item). Stands s e (Ok a)) (sym (nth_record r k h d)) (sym (record_answer r k h (λ v. refl) d)) (bytes_there refl)
element_stands s (L.Headers i) l r k h d =
    subst₂ (λ (e : Element) (a : Item). Stands s e (Ok a)) (sym (nth_record r k h d)) (sym (record_answer r k h (λ v. refl) d)) (header_there (header_stands s (i.first + k * block_header_size) (record_inside r k h)))
element_stands s (L.Indexes i) l r k h d = rw (nth_of_indexes r k h d) index_there
element_stands s L.Nothing l r k h d = absurd (omega arith)

held_stands : (s : List ℕ) (list : Answer Listing) (l : Listed) (last : ℕ) → HeldBy s list (got l last) → (k : ℕ) → k < length l.elements → (d : Element) → Stands s (get_or l.elements k d) (Ok (answer_at l k (get_or l.elements k d)))
held_stands s (Ok list) l last r k h d = let n = as_many s list l r.0 in element_stands s list l r.0 k (omega arith) d
held_stands s (Err q) l last r k h d = absurd r

pub stands : ItemsStand
unfolding item_of listed_of
stands t s bs l last e k h d =
    let whole = held_from t s bs (read_by (layout t) s) (λ v last e. by_got (layout t) s e) in
    let r : HeldBy s (list_by (answered ((row t).packet s) (read_by (layout t) s))) (got l last) = subst (HeldBy s (list_by (answered ((row t).packet s) (read_by (layout t) s)))) e whole in
    let is : item_by k (listed_of t s) ≡ Ok (answer_at l k (get_or l.elements k d)) = ap (item_by k) e ∙ pick_there (λ (e : Element). Ok (answer_at l k e)) (Err no_item) l.elements k d h in
    subst (Stands s (get_or l.elements k d)) (sym is) (held_stands s (list_by (answered ((row t).packet s) (read_by (layout t) s))) l last r k h d)
