-- Numbers of items to an output's front: what is stored and what is left are all of them, and they are those of the items. Assumes nothing.
use Prim.Native.Nat.{ℕ, zero, suc, ◌+◌, ◌-◌, ◌*◌, ◌≤◌, ◌<◌}
use mathlib.Core.Path.{◌≡◌, refl, sym, ap, ◌∙◌}
use mathlib.Core.Bool.{true}
use mathlib.Core.List.{List, [], ◌∷◌, map, append-nil}
use native.Mathlib.Omega.{arith}
use native.Mathlib.Nat.{suc-mul, mul-le-mul_right}
use lib.ListN.{length, drop, set, length-append}
use lib.Seq.{drop-drop}
use lib.Dec.{leb}
use borrow.Author.Tests.{le-leb, lt-leb}
use borrow.Rule.Slice.PartMut.{put_mid}
use Rattle.hns_refusals.specs.declared.Refusal.{Refusal}
use Rattle.hns_refusals.specs.Limits.{max_payload, block_header_size}
use Rattle.hns_refusals.specs.Refusals.{output_short}
use Rattle.hns_encoding.specs.Bytes.{Bytes, Outcome}
use Rattle.hns_encoding.specs.Format.{Format, raw, whole, Value, size, Fixed, fixed_flat, value_at, values_at}
use Rattle.hns_encoding.specs.Put.{splice}
use Rattle.hns_encoding.proofs.Puts.{splice_none, splice_append, splice_fits, splice_cons, length_splice}
use Rattle.hns_header_consensus.specs.Layout.{header}
use Rattle.hns_p2p_types.specs.declared.NetAddress.{NetAddress}
use Rattle.hns_p2p_types.specs.declared.Items.{Items}
use Rattle.hns_p2p_types.specs.declared.Listing.{Listing}
use Rattle.hns_p2p_types.specs.declared.Listing.TheVariants as L
use Rattle.std.specs.Prelude.{Result, Ok, Err}
use Rattle.std.proofs.lemmas.List.{drop_all}
use Rattle.hns_p2p_types.specs.Packets.{address_in, address_numbers}
use Rattle.hns_p2p_blocks.proofs.Addresses.{address_is}
use Rattle.hns_p2p_rights.specs.Terms.{Terms}
use Rattle.hns_p2p_items.specs.Items.{Element, a_hash, a_header, an_index, Listed, size_of, answer, answer_at, listed_under}
use Rattle.hns_p2p_items.specs.Listings.{listing_under, Records, Holds}
use Rattle.hns_p2p_items.proofs.Held.{There, there, away}
use Rattle.hns_p2p_indexes.specs.Indexes.{Answer, fitted}
use Rattle.hns_p2p_item_numbers.specs.Numbers.{item_numbers, numbers_after, numbers_by, numbers_under}
use Rattle.hns_p2p_item_numbers.specs.Helpers.{address_at, inventory_at, numbers_from}

-- ---- the loop

-- numbers set at a place and those after it
abbrev sets : List ℕ → ℕ → List ℕ → List ℕ
sets o p [] = o
sets o p (x ∷ xs) = sets (set o p x) (p + 1) xs

sets_splice : (o : List ℕ) (p : ℕ) (xs : List ℕ) → sets o p xs ≡ splice o p xs
sets_splice o p [] = sym (splice_none o p)
sets_splice o p (x ∷ xs) = sets_splice (set o p x) (p + 1) xs ∙ sym (splice_cons o p x xs)

-- all places of a row set
row_set : (o xs : List ℕ) → length o ≡ length xs → sets o 0 xs ≡ xs
row_set o xs e =
    let none : drop (0 + length xs) o ≡ [] = drop_all (0 + length xs) o (omega arith) in
    sets_splice o 0 xs ∙ (splice_fits o 0 xs (omega arith) ∙ rw (none, append-nil))

pub address_set : (o s : List ℕ) (p : ℕ) {a : NetAddress} → length o ≡ 6 → a ≡ address_in s p → set (set (set (set (set (set o 0 a.time) 1 a.services) 2 a.ip_first) 3 a.ip_last) 4 a.port) 5 a.key ≡ address_at s p
address_set o s p {a} h e = row_set o (address_numbers a) h ∙ ap address_numbers e

-- a part of the output that is filled
pub stored_here : (o : List ℕ) (p k : ℕ) (y : List ℕ) → k ≡ length y → p + length y ≤ length o → put_mid p k o y ≡ splice o p y
stored_here o p k y e h = rw (e, drop-drop) (sym (splice_fits o p y (omega arith)))

-- items of so many bytes, each of so many numbers
module _ (numbers : List ℕ → ℕ → List ℕ) (bytes width : ℕ) where
  -- i items are stored, and the others stand from `at` on
  pub record StoredTo (s : List ℕ) (items : Items) (o₀ o : List ℕ) (at to i : ℕ) : Type 0 where
    pub some : i ≤ items.count
    pub long : length o ≡ length o₀
    pub here : at ≡ items.first + i * bytes
    pub there : to ≡ i * width
    pub whole : splice o₀ 0 (numbers_from numbers bytes s items.count items.first) ≡ splice o to (numbers_from numbers bytes s (items.count - i) at)

pub store_start : (numbers : List ℕ → ℕ → List ℕ) (bytes width : ℕ) (s : List ℕ) (items : Items) (o : List ℕ) → StoredTo numbers bytes width s items o o items.first 0 0
store_start numbers bytes width s items o =
    let all : items.count - 0 ≡ items.count = omega arith in
    record { some = omega arith; long = refl; here = omega arith; there = omega arith; whole = rw all }

module _ {numbers : List ℕ → ℕ → List ℕ} {bytes width : ℕ} {s : List ℕ} {items : Items} {o₀ o : List ℕ} {at to i : ℕ} (t : StoredTo numbers bytes width s items o₀ o at to i) where
  module _ (h : i < items.count) where
    pub store_room : items.count * width ≤ length o₀ → to + width ≤ length o
    store_room fits =
        let more : suc i * width ≡ i * width + width = suc-mul i width in
        let most : suc i * width ≤ items.count * width = mul-le-mul_right width h in
        omega (arith, t.there, t.long)

    pub store_next : {xs o' : List ℕ} → length xs ≡ width → xs ≡ numbers s at → o' ≡ splice o to xs → StoredTo numbers bytes width s items o₀ o' (at + bytes) (to + width) (i + 1)
    unfolding numbers_from
    store_next {xs} long is e =
        let more : items.count - i ≡ suc (items.count - (i + 1)) = omega arith in
        let ahead : (i + 1) * bytes ≡ i * bytes + bytes = omega (arith, suc-mul i bytes) in
        let stored : (i + 1) * width ≡ i * width + width = omega (arith, suc-mul i width) in
        record {
          some = omega arith;
          long = ap length e ∙ (length_splice o to xs ∙ t.long);
          here = omega (arith, t.here);
          there = omega (arith, t.there);
          whole = t.whole
              ∙ (ap (λ (n : ℕ). splice o to (numbers_from numbers bytes s n at)) more
              ∙ (splice_append o to (numbers s at) (numbers_from numbers bytes s (items.count - (i + 1)) (at + bytes))
              ∙ rw (← is, long, e)));
        }

  pub store_end : items.count ≤ i → o ≡ splice o₀ 0 (numbers_from numbers bytes s items.count items.first)
  unfolding numbers_from
  store_end h =
      let none : items.count - i ≡ 0 = omega arith in
      sym (t.whole ∙ (ap (λ (n : ℕ). splice o to (numbers_from numbers bytes s n at)) none ∙ splice_none o to))

-- ---- where the output has room, and where it has not

module _ (numbers : List ℕ → ℕ → List ℕ) (bytes width : ℕ) (long : (s : List ℕ) (p : ℕ) → length (numbers s p) ≡ width) where
  pub length_from : (s : List ℕ) (n p : ℕ) → length (numbers_from numbers bytes s n p) ≡ n * width
  unfolding numbers_from
  length_from s zero p = omega arith
  length_from s (suc n) p = omega (arith, length-append (numbers s p) (numbers_from numbers bytes s n (p + bytes)), long s p, length_from s n (p + bytes), suc-mul n width)

  module _ (s : List ℕ) (items : Items) (o : List ℕ) where
    pub short_answer : length o < items.count * width → Err (output_short (items.count * width)) ≡ (fitted (numbers_from numbers bytes s items.count items.first) o).answer
    short_answer h =
        let many = length_from s items.count items.first in
        let over : length o < length (numbers_from numbers bytes s items.count items.first) = omega arith in
        rw (lt-leb _ _ over, many)

    pub short_output : length o < items.count * width → o ≡ (fitted (numbers_from numbers bytes s items.count items.first) o).output
    short_output h =
        let many = length_from s items.count items.first in
        let over : length o < length (numbers_from numbers bytes s items.count items.first) = omega arith in
        rw (lt-leb _ _ over)

    pub fit_answer : items.count * width ≤ length o → Ok (items.count * width) ≡ (fitted (numbers_from numbers bytes s items.count items.first) o).answer
    fit_answer h =
        let many = length_from s items.count items.first in
        let fits : length (numbers_from numbers bytes s items.count items.first) ≤ length o = omega arith in
        rw (le-leb _ _ fits, many)

    pub fit_output : items.count * width ≤ length o → {o' : List ℕ} → o' ≡ splice o 0 (numbers_from numbers bytes s items.count items.first) → o' ≡ (fitted (numbers_from numbers bytes s items.count items.first) o).output
    fit_output h e =
        let many = length_from s items.count items.first in
        let fits : length (numbers_from numbers bytes s items.count items.first) ≤ length o = omega arith in
        rw (le-leb _ _ fits) e

-- an answer and the output after it
abbrev pub Answers : Answer → Result ℕ Refusal → List ℕ → Type 0
Answers x answer output = (answer ≡ x.answer) × (output ≡ x.output)

-- ---- the numbers from the places are those of the items

module _ (f : Format) (x : Fixed f) (element : Value f → Element) (sized : (v : Value f) → size_of (element v) ≡ size f) (numbers : List ℕ → ℕ → List ℕ) (s : List ℕ) (l : Listed)
    (same : (p : ℕ) → p + size f ≤ length s → item_numbers (answer p (element (value_at f (fixed_flat f x) s p))) ≡ numbers s p) where
  from_items : (n k p : ℕ) → p ≡ l.first + k * size f → p + n * size f ≤ length s → numbers_after l k (map element (values_at f x n s p)) ≡ numbers_from numbers (size f) s n p
  unfolding numbers_after numbers_from values_at
  from_items zero k p e h = refl
  from_items (suc n) k p e h =
      let v = value_at f (fixed_flat f x) s p in
      let step = suc-mul n (size f) in
      let here : l.first + k * size_of (element v) ≡ p = rw (sized v) (sym e) in
      let next : p + size f ≡ l.first + suc k * size f = omega (arith, suc-mul k (size f)) in
      let rest = from_items n (suc k) (p + size f) next (omega arith) in
      rw (here, same p (omega arith), rest)

none_of : {A : Type 0} (element : A → Element) (l : Listed) → ((k : ℕ) (v : A) → item_numbers (answer_at l k (element v)) ≡ []) → (vs : List A) (k : ℕ) → numbers_after l k (map element vs) ≡ []
unfolding numbers_after
none_of element l none [] k = refl
none_of element l none (v ∷ vs) k = rw (none k v, none_of element l none vs (suc k))

-- a list's records as so many numbers
records_numbers : {f : Format} {x : Fixed f} {element : Value f → Element} {s : List ℕ} {i : Items} {l : Listed} → Records f x element s i l → ((v : Value f) → size_of (element v) ≡ size f) → (numbers : List ℕ → ℕ → List ℕ)
    → ((p : ℕ) → p + size f ≤ length s → item_numbers (answer p (element (value_at f (fixed_flat f x) s p))) ≡ numbers s p)
    → numbers_after l 0 l.elements ≡ numbers_from numbers (size f) s i.count i.first
records_numbers {f} {x} {element} {s} {i} {l} r sized numbers same = ap (numbers_after l 0) r.same ∙ from_items f x element sized numbers s l same i.count 0 i.first (omega (arith, r.begins)) r.inside

-- ---- the answers of `item_numbers`

-- a payload's items are all of one kind
pub record Shaped (numbers : List ℕ → ℕ → List ℕ) (bytes : ℕ) (s : List ℕ) (i : Items) (q : Outcome Listed) : Type 0 where
  pub inside : i.first + i.count * bytes ≤ max_payload
  pub same : (o : List ℕ) → fitted (numbers_from numbers bytes s i.count i.first) o ≡ numbers_by q o

no_numbers : (o : List ℕ) (l : Listed) → numbers_after l 0 l.elements ≡ [] → Answers (fitted (numbers_after l 0 l.elements) o) (Ok 0) o
no_numbers o l e =
    let fits : leb 0 (length o) ≡ true = le-leb 0 (length o) (omega arith) in
    (rw (e, fits), rw (e, fits) (sym (splice_none o 0)))

of_others : (s : List ℕ) (list : Listing) (o : List ℕ) (l : Listed) → Holds s list l → ((i : Items) → list ≡ L.Addresses i → ⊥) → ((i : Items) → list ≡ L.Inventory i → ⊥) → numbers_after l 0 l.elements ≡ []
unfolding numbers_after
of_others s (L.Hashes i) o l r q k = ap (numbers_after l 0) r.same ∙ none_of a_hash l (λ k v. refl) (values_at (raw 32) _ i.count s i.first) 0
of_others s (L.Headers i) o l r q k = ap (numbers_after l 0) r.same ∙ none_of a_header l (λ k v. refl) (values_at (whole block_header_size header) (refl, _) i.count s i.first) 0
of_others s (L.Indexes i) o l r q k = ap (numbers_after l 0) r.same ∙ none_of an_index l (λ k v. refl) r.indexes 0
of_others s L.Nothing o l r q k = ap (numbers_after l 0) r
of_others s (L.Addresses i) o l r q k = absurd (q i refl)
of_others s (L.Inventory i) o l r q k = absurd (k i refl)

module _ (u : Terms) (t : ℕ) (s : List ℕ) (bs : Bytes s) {list : Result Listing Refusal} (e : list ≡ listing_under u t s) where
  pub numbers_refused : (o : List ℕ) {r : Refusal} → list ≡ Err r → Answers (numbers_under u t s o) (Err r) o
  unfolding numbers_under
  numbers_refused o g = let a = away u t s bs e g in (rw a, rw a)

  module _ {x : Listing} (g : list ≡ Ok x) where
    pub numbers_none : (o : List ℕ) → ((i : Items) → x ≡ L.Addresses i → ⊥) → ((i : Items) → x ≡ L.Inventory i → ⊥) → Answers (numbers_under u t s o) (Ok 0) o
    unfolding numbers_under
    numbers_none o a i = let k = there u t s bs e g in rw k.is (no_numbers o k.listed (of_others s x o k.listed k.holds a i))

    pub of_addresses : {i : Items} → x ≡ L.Addresses i → Shaped address_at 88 s i (listed_under u t s)
    of_addresses {i} f =
        let k : There s (L.Addresses i) (listed_under u t s) = rw f at (there u t s bs e g) in
        let numbers = records_numbers k.holds (λ v. refl) address_at (λ p h. ap address_numbers (sym (address_is s p (omega arith)))) in
        record { inside = omega (arith, k.holds.inside, k.small); same = λ o. rw k.is (ap (λ (ns : List ℕ). fitted ns o) (sym numbers)) }

    pub of_inventory : {i : Items} → x ≡ L.Inventory i → Shaped inventory_at 36 s i (listed_under u t s)
    of_inventory {i} f =
        let k : There s (L.Inventory i) (listed_under u t s) = rw f at (there u t s bs e g) in
        let numbers = records_numbers k.holds (λ v. refl) inventory_at (λ p h. refl) in
        record { inside = omega (arith, k.holds.inside, k.small); same = λ o. rw k.is (ap (λ (ns : List ℕ). fitted ns o) (sym numbers)) }

module _ (u : Terms) (t : ℕ) {numbers : List ℕ → ℕ → List ℕ} {bytes : ℕ} {s : List ℕ} {i : Items} (k : Shaped numbers bytes s i (listed_under u t s)) (o : List ℕ) where
  pub shaped_answer : {a : Result ℕ Refusal} → a ≡ (fitted (numbers_from numbers bytes s i.count i.first) o).answer → a ≡ (numbers_under u t s o).answer
  unfolding numbers_under
  shaped_answer x = x ∙ ap (λ (z : Answer). z.answer) (k.same o)

  pub shaped_output : {o' : List ℕ} → o' ≡ (fitted (numbers_from numbers bytes s i.count i.first) o).output → o' ≡ (numbers_under u t s o).output
  unfolding numbers_under
  shaped_output x = x ∙ ap (λ (z : Answer). z.output) (k.same o)
