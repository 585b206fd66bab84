-- The finder: bytes that agree are the hash, and what the scan finds among the places is what stands among the items. Assumes nothing.
use Prim.Native.Nat.{ℕ, zero, suc, ◌+◌, ◌*◌, ◌≤◌, ◌<◌}
use mathlib.Core.Path.{◌≡◌, refl, sym, ap, ◌∙◌, subst}
use mathlib.Core.List.{List, [], ◌∷◌, map}
use mathlib.Core.Bool.{Bool, true, false}
use lib.Dec.{eqb, lit≤}
use lib.Pointwise.{pointwise}
use Rattle.std.specs.Cmp.Lexicographic.{same_text, other_text}
use Rattle.std.specs.Bool.{Decides}
use native.Mathlib.Omega.{arith}
use lib.ListN.{length, get_or}
use Rattle.std.specs.Prelude.{Option, Some, None, Ok, Err}
use Rattle.hns_refusals.specs.declared.Refusal.{Refusal}
use Rattle.hns_refusals.specs.Refusals.{Answer}
use Rattle.hns_encoding.specs.Bytes.{part, raw_at, Bytes, Outcome, got, stop}
use Rattle.hns_encoding.specs.Format.{Format, Value, Fixed, values_at}
use Rattle.hns_encoding.proofs.Numbers.{part_length}
use Rattle.hns_encoding.proofs.Reading.{raw_there, part_inside}
use Rattle.hns_p2p_types.specs.Protocol.{inventory_item}
use Rattle.hns_p2p_types.specs.declared.Items.{Items}
use Rattle.hns_p2p_types.specs.declared.Listing.{Listing}
use Rattle.hns_p2p_types.specs.declared.Listing.TheVariants as L
use Rattle.hns_p2p_types.specs.declared.Item.{Item}
use Rattle.hns_p2p_types.specs.declared.Item.TheVariants as I
use Rattle.hns_p2p_rights.specs.Terms.{Terms}
use Rattle.hns_p2p_items.specs.Items.{Element, an_inventory, an_index, Listed, listed_of, listed_under, Stands, key_there, hash_there, bytes_there, header_there, index_there}
use Rattle.hns_p2p_items.specs.Listings.{listing_under, Records, Holds}
use Rattle.hns_p2p_items.proofs.Held.{There, there, away}
use Rattle.hns_p2p_items.proofs.Items.{records_many, nth_record, stands}
use Rattle.hns_p2p_find.specs.Find.{Is, Has, Finds, NoneExactly, ItemThere, FoundItem}
use Rattle.hns_p2p_find.specs.Helpers.{hash_at, Scanned, Lowest, FindsLowest}

-- ---- the scan

same_test : (a b : List ℕ) (test : Bool) → test ≡ pointwise eqb a b → a ≡ b → test ≡ true
same_test a b true g q = refl
same_test a b false g q = absurd (other_text a b g q)

pub same_bytes : (s : List ℕ) (p : ℕ) (h : List ℕ) → p + 32 ≤ length s → {n : ℕ} → n ≡ 32 → {there : List ℕ} → there ≡ raw_at 32 (part s p n) 0 → {test : Bool} → test ≡ pointwise eqb there h → Decides test (part s p 32 ≡ h)
same_bytes s p h inside {n} all {there} e {test} g =
    let long = part_length s p 32 (omega arith) in
    let start : p + 0 ≡ p = omega arith in
    let is : there ≡ part s p 32 = e ∙ ap (λ (k : ℕ). raw_at 32 (part s p k) 0) all ∙ raw_there 32 (part s p 32) 0 (omega arith) ∙ part_inside s p 32 0 32 (lit≤ tt) ∙ ap (λ (k : ℕ). part s k 32) start in
    (λ t. sym is ∙ same_text there h (sym t ∙ g), λ q. same_test there h test g (is ∙ q))

-- ---- items

has_of : (h : List ℕ) (es : List Element) (k : ℕ) (d : Element) → k < length es → Is h (get_or es k d) → Has h es k
has_of h [] k d b e = absurd (omega arith)
has_of h (x ∷ es) zero d b e = e
has_of h (x ∷ es) (suc k) d b e = has_of h es k d (omega arith) e

has_is : (h : List ℕ) (es : List Element) (k : ℕ) (d : Element) → Has h es k → (k < length es) × Is h (get_or es k d)
has_is h [] k d e = absurd e
has_is h (x ∷ es) zero d e = (omega arith, e)
has_is h (x ∷ es) (suc k) d e = let r = has_is h es k d e in (omega (arith, r.0), r.1)

-- items of another sort
others : {A : Type 0} (f : A → Element) (h : List ℕ) → ((x : A) → Is h (f x) → ⊥) → (xs : List A) (k : ℕ) → Has h (map f xs) k → ⊥
others f h no-hash [] k e = e
others f h no-hash (x ∷ xs) zero e = no-hash x e
others f h no-hash (x ∷ xs) (suc k) e = others f h no-hash xs k e

other_records : {f : Format} {x : Fixed f} {element : Value f → Element} {s : List ℕ} {i : Items} {l : Listed} → Records f x element s i l → (h : List ℕ) → ((v : Value f) → Is h (element v) → ⊥) → (k : ℕ) → Has h l.elements k → ⊥
other_records {f} {x} {element} {s} {i} r h z k e = others element h z (values_at f x i.count s i.first) k (subst (λ (es : List Element). Has h es k) r.same e)

module _ {s : List ℕ} {i : Items} {l : Listed} (r : Records inventory_item _ an_inventory s i l) (h : List ℕ) where
  to_item : (k : ℕ) → k < i.count → hash_at s i.first k ≡ h → Has h l.elements k
  to_item k b e =
      let n = records_many r in
      has_of h l.elements k (an_index 0) (omega arith) (subst (Is h) (sym (nth_record r k b (an_index 0))) e)

  from_item : (k : ℕ) → Has h l.elements k → (k < i.count) × (hash_at s i.first k ≡ h)
  from_item k e =
      let n = records_many r in
      let g = has_is h l.elements k (an_index 0) e in
      let b : k < i.count = omega (arith, g.0) in
      (b, subst (Is h) (nth_record r k b (an_index 0)) g.1)

  scanned_finds : (last : ℕ) (f : Option ℕ) → Scanned s i.first i.count h f → FindsLowest (got l last) h (Ok f)
  unfolding Scanned Finds Lowest
  scanned_finds last (Some k) g = record { finds = to_item k g.0 g.1; lowest = λ j b e. g.2 j b (from_item j e).1 }
  scanned_finds last None g = record { finds = λ k e. (let m = from_item k e in g k m.0 m.1); lowest = tt }

-- the hash stands nowhere in a list that has no inventory items
nowhere : (s : List ℕ) (list : Listing) (l : Listed) (h : List ℕ) → Holds s list l → ((i : Items) → list ≡ L.Inventory i → ⊥) → (k : ℕ) → Has h l.elements k → ⊥
nowhere s (L.Inventory i) l h x q = absurd (q i refl)
nowhere s (L.Addresses i) l h x q = other_records x h (λ v z. z)
nowhere s (L.Hashes i) l h x q = other_records x h (λ v z. z)
nowhere s (L.Headers i) l h x q = other_records x h (λ v z. z)
nowhere s (L.Indexes i) l h x q = λ k e. others an_index h (λ v z. z) x.indexes k (subst (λ (es : List Element). Has h es k) x.same e)
nowhere s L.Nothing l h x q = λ k e. subst (λ (es : List Element). Has h es k) x e

none_finds : (h : List ℕ) (l : Listed) (last : ℕ) → ((k : ℕ) → Has h l.elements k → ⊥) → FindsLowest (got l last) h (Ok None)
unfolding Finds Lowest
none_finds h l last z = record { finds = z; lowest = tt }

finds_refusal : (h : List ℕ) (r : Refusal) → FindsLowest (stop r) h (Err r)
unfolding Finds Lowest
finds_refusal h r = record { finds = refl; lowest = tt }

-- ---- the answers of `lowest`

module _ (u : Terms) (t : ℕ) (s : List ℕ) (bs : Bytes s) {list : Answer Listing} (e : list ≡ listing_under u t s) (h : List ℕ) where
  pub find_refused : {r : Refusal} → list ≡ Err r → FindsLowest (listed_under u t s) h (Err r)
  find_refused {r} g = rw (away u t s bs e g) (finds_refusal h r)

  module _ {x : Listing} (g : list ≡ Ok x) where
    pub find_none : ((i : Items) → x ≡ L.Inventory i → ⊥) → FindsLowest (listed_under u t s) h (Ok None)
    find_none q = let o = there u t s bs e g in rw o.is (none_finds h o.listed o.last (nowhere s x o.listed h o.holds q))

    module _ {i : Items} (f : x ≡ L.Inventory i) where
      inventory_there : There s (L.Inventory i) (listed_under u t s)
      inventory_there = rw f at (there u t s bs e g)

      pub find_inside : i.first + i.count * 36 ≤ length s
      find_inside = inventory_there.holds.inside

      pub find_scanned : {found : Option ℕ} → Scanned s i.first i.count h found → FindsLowest (listed_under u t s) h (Ok found)
      find_scanned {found} q = let o = inventory_there in rw o.is (scanned_finds o.holds h o.last found q)

-- ---- what the finder's answers say

pub none_exactly : NoneExactly
unfolding Finds
none_exactly l last h (Ok (Some k)) e = (λ q. cc, λ z. absurd (z k e))
none_exactly l last h (Ok None) e = (λ q. e, λ z. refl)
none_exactly l last h (Err r) e = absurd e

found_there : {s : List ℕ} {e : Element} {item : Answer Item} (h : List ℕ) → Stands s e item → Is h e → (kind : ℕ) × (place : ℕ) × (item ≡ Ok (I.Inventory kind place)) × (part s place 32 ≡ h)
found_there h (key_there q) x = absurd x
found_there h (hash_there {v} {p} q) x = (v.0, p, refl, q ∙ x)
found_there h (bytes_there q) x = absurd x
found_there h (header_there q) x = absurd x
found_there h index_there x = absurd x

pub found_item : FoundItem
unfolding Finds
found_item t s bs h k x = go (listed_of t s) refl x
  where
    go : (o : Outcome Listed) → listed_of t s ≡ o → Finds o h (Ok (Some k)) → ItemThere t s k h
    go (got l last) e x =
        let g = has_is h l.elements k (an_index 0) x in
        let r = found_there h (stands t s bs l last e k g.0 (an_index 0)) g.1 in
        record { kind = r.0; place = r.1; item = r.2; bytes = r.3 }
    go (stop r) e x = absurd x
