-- Indexes to an output's front: what is stored and what is left are the whole list. Assumes nothing.
use Prim.Native.Nat.{ℕ, suc, ◌+◌, ◌-◌, ◌≤◌, ◌<◌}
use mathlib.Core.Path.{◌≡◌, refl, sym, ap, ◌∙◌, subst}
use mathlib.Core.List.{List, ◌∷◌}
use native.Mathlib.Omega.{arith}
use lib.ListN.{length, get_or, set, length-set}
use lib.Dec.{leb}
use borrow.Author.Tests.{le-leb, lt-leb, leb-true}
use Rattle.hns_refusals.specs.declared.Refusal.{Refusal}
use Rattle.hns_refusals.specs.Limits.{max_index}
use Rattle.hns_refusals.specs.Refusals.{output_short, index_field}
use Rattle.hns_encoding.specs.Bytes.{le, Bytes, Outcome, got, stop, bytes_at, le_at, number_at}
use Rattle.hns_encoding.specs.Compact.{wide_at, compact_from, compact_at, count_at}
use Rattle.hns_encoding.specs.Format.{Value, read, indexes_from}
use Rattle.hns_encoding.specs.Put.{splice}
use Rattle.hns_encoding.proofs.Outcomes.{after_got, choose_got, bytes_got, byte_got, to_end_got, count_got}
use Rattle.hns_encoding.proofs.Puts.{splice_none, splice_cons}
use Rattle.hns_encoding.proofs.Forms.{Wide, two, four, eight, wide_from, First as FirstByte, alone, leads, first}
use Rattle.hns_encoding.proofs.Reading.{number_there}
use Rattle.hns_p2p_differences.proofs.Differences.{one_byte}
use Rattle.hns_p2p_types.specs.Protocol.{getblocktxn}
use Rattle.hns_p2p_types.specs.declared.Items.{Items}
use Rattle.hns_p2p_types.specs.declared.Listing.{Listing}
use Rattle.hns_p2p_types.specs.declared.Listing.TheVariants as L
use Rattle.hns_p2p_types.specs.declared.Packet.TheVariants as P
use Rattle.std.specs.Prelude.{Result, Ok, Err}
use Rattle.hns_p2p_types.specs.Packets.{items_at, row, rows, answered}
use Rattle.hns_p2p_rights.specs.Terms.{Terms}
use Rattle.hns_p2p_admission.specs.Reading.{read_under, packet_under}
use Rattle.hns_p2p_admission.proofs.Admitted.{under_got}
use Rattle.hns_p2p_items.specs.Listings.{list_in, list_by, listing_under, Indexed}
use Rattle.hns_p2p_items.proofs.Held.{indexed_there}
use Rattle.hns_p2p_items.proofs.Items.{First, first_of}
use Rattle.hns_p2p_indexes.specs.Indexes.{Answer, stored_by, request_under, stored_under}
use Rattle.hns_p2p_indexes.specs.Helpers.{Reads, StepThere, indexes_of}

-- ---- a difference that reads

wide_got : (n least : ℕ) (s : List ℕ) (p : ℕ) {v next : ℕ} → wide_at n least s p ≡ got v next → (least ≤ v) × (v ≡ number_at n s p) × (next ≡ p + n) × (n ≤ length s - p)
unfolding wide_at le_at
wide_got n least s p {v} {next} e =
    let g = after_got (le_at n s p) _ e in
    let c = choose_got (leb least g.0) _ _ g.3 in
    let b = after_got (bytes_at n s p) _ g.2 in
    let h = bytes_got n s p b.2 in
    let same : v ≡ g.0 = cc in
    let value : v ≡ le b.0 = cc b.3 in
    let end : next ≡ b.1 = cc (c.1, b.3) in
    (omega (arith, leb-true least g.0 c.0, same), value ∙ (ap le h.0 ∙ sym (number_there n s p h.2)), end ∙ h.1, h.2)

-- of the wide forms only that of two bytes holds an index
two_after : {b n least : ℕ} → Wide b n least → (s : List ℕ) (p : ℕ) {v next : ℕ} → compact_from b s p ≡ got v next → v ≤ max_index → (v ≡ number_at 2 s p) × (next ≡ p + 2) × (2 ≤ length s - p)
two_after two s p e h = let g = wide_got 2 253 s p (sym (wide_from two s p) ∙ e) in (g.1, g.2, g.3)
two_after four s p e h = absurd (omega (arith, (wide_got 4 65536 s p (sym (wide_from four s p) ∙ e)).0))
two_after eight s p e h = absurd (omega (arith, (wide_got 8 4294967296 s p (sym (wide_from eight s p) ∙ e)).0))

module _ (s : List ℕ) (p : ℕ) (t : StepThere s p) where
  -- its first byte, and what that says
  head_says : (compact_from (get_or s p 0) s (p + 1) ≡ got t.difference t.next) × (p < length s)
  unfolding compact_at
  head_says =
      let g = after_got (le_at 1 s p) _ (count_got max_index index_field s p t.reads).0 in
      let h = byte_got s p g.2 in
      (rw (h.0, h.1) at g.3, h.2)

  pub step_inside : p < length s
  step_inside = head_says.1

  pub step_one : {head : ℕ} → head ≡ get_or s p 0 → get_or s p 0 < 253 → count_at max_index index_field s p ≡ got head (p + 1)
  step_one e h = rw e (one_byte s p step_inside h)

  module _ (low : 253 ≤ get_or s p 0) (high : get_or s p 0 < 256) where
    after_head : (t.difference ≡ number_at 2 s (p + 1)) × (t.next ≡ p + 1 + 2) × (2 ≤ length s - (p + 1))
    after_head = go (first (get_or s p 0) (omega arith))
      where
        go : FirstByte (get_or s p 0) → (t.difference ≡ number_at 2 s (p + 1)) × (t.next ≡ p + 1 + 2) × (2 ≤ length s - (p + 1))
        go (alone h) = absurd (omega arith)
        go (leads w) = two_after w s (p + 1) head_says.0 (count_got max_index index_field s p t.reads).1

  pub step_two : 253 ≤ get_or s p 0 → get_or s p 0 < 256 → {v : ℕ} → v ≡ number_at 2 s (p + 1) → count_at max_index index_field s p ≡ got v (p + 3)
  step_two low high e =
      let after = after_head low high in
      let end : t.next ≡ p + 3 = omega (arith, after.1) in
      t.reads ∙ rw (after.0 ∙ sym e, end)

-- ---- the loop

-- i indexes are stored, and the others are read from `next` on, each at least `base`
pub record StoredTo (count : ℕ) (s : List ℕ) (first : ℕ) (o₀ o : List ℕ) (i base next : ℕ) : Type 0 where
  pub some : i ≤ count
  pub low : base ≤ max_index + 1
  pub long : length o ≡ length o₀
  pub rest : Reads (count - i) base s next
  pub whole : splice o₀ 0 (indexes_of (indexes_from count 0 s first)) ≡ splice o i (indexes_of (indexes_from (count - i) base s next))

pub store_start : (count : ℕ) (s : List ℕ) (first : ℕ) (o : List ℕ) → Reads count 0 s first → StoredTo count s first o o 0 0 first
store_start count s first o r =
    let all : count - 0 ≡ count = omega arith in
    record { some = omega arith; low = omega arith; long = refl; rest = rw all r; whole = rw all }

-- one index is read and stored
pub record Turn (k base : ℕ) (s : List ℕ) (p : ℕ) (d next : ℕ) : Type 0 where
  pub small : base + d ≤ max_index
  pub rest : Reads k (base + d + 1) s next
  pub is : indexes_of (indexes_from (suc k) base s p) ≡ (base + d) ∷ indexes_of (indexes_from k (base + d + 1) s next)

made_turn : (k base : ℕ) (s : List ℕ) (p : ℕ) {is : List ℕ} (f : First k base s p is) → Turn k base s p f.d f.next
made_turn k base s p f =
    record {
      small = f.small;
      rest = record { indexes = f.rest; last = f.end; reads = f.reads };
      is = rw (f.difference, le-leb (base + f.d) max_index f.small, f.reads);
    }

module _ (k base : ℕ) (s : List ℕ) (p : ℕ) (r : Reads (suc k) base s p) where
  step_there : StepThere s p
  step_there = let f = first_of k base s p r.reads in record { difference = f.d; next = f.next; reads = f.difference }

  turn : {d next : ℕ} → count_at max_index index_field s p ≡ got d next → Turn k base s p d next
  turn {d} {next} e =
      let f = first_of k base s p r.reads in
      let a = f.difference in
      let same-d : f.d ≡ d = cc in
      let same_next : f.next ≡ next = cc in
      subst (λ (n : ℕ). Turn k base s p d n) same_next (subst (λ (n : ℕ). Turn k base s p n f.next) same-d (made_turn k base s p f))

module _ {count : ℕ} {s : List ℕ} {first : ℕ} {o₀ o : List ℕ} {i base next : ℕ} (t : StoredTo count s first o₀ o i base next) where
  module _ (h : i < count) where
    more : count - i ≡ suc (count - (i + 1))
    more = omega arith

    here : Reads (suc (count - (i + 1))) base s next
    here = subst (λ (n : ℕ). Reads n base s next) more t.rest

    pub store_there : StepThere s next
    store_there = step_there (count - (i + 1)) base s next here

    module _ {d after : ℕ} (e : count_at max_index index_field s next ≡ got d after) where
      pub store_small : base + d ≤ max_index
      store_small = (turn (count - (i + 1)) base s next here e).small

      pub store_next : StoredTo count s first o₀ (set o i (base + d)) (i + 1) (base + d + 1) after
      store_next =
          let u = turn (count - (i + 1)) base s next here e in
          record {
            some = omega arith;
            low = omega (arith, u.small);
            long = length-set o i (base + d) ∙ t.long;
            rest = u.rest;
            whole = t.whole
                ∙ (ap (λ (n : ℕ). splice o i (indexes_of (indexes_from n base s next))) more
                ∙ (ap (splice o i) u.is ∙ splice_cons o i (base + d) (indexes_of (indexes_from (count - (i + 1)) (base + d + 1) s after))));
          }

  pub store_end : count ≤ i → o ≡ splice o₀ 0 (indexes_of (indexes_from count 0 s first))
  store_end h =
      let none : count - i ≡ 0 = omega arith in
      sym (t.whole ∙ (ap (λ (n : ℕ). splice o i (indexes_of (indexes_from n base s next))) none ∙ splice_none o i))

-- ---- a payload

-- the code's list of a getblocktxn payload
abbrev Seen : List ℕ → Result Listing Refusal → Outcome (Value getblocktxn) → Type 0
Seen s list (got v last) = (list ≡ Ok (L.Indexes (items_at 32 v.1))) × Indexed s (items_at 32 v.1) v.1
Seen s list (stop r) = list ≡ Err r

seen : (u : Terms) (s : List ℕ) → Bytes s → Seen s (listing_under u 24 s) (request_under u s)
unfolding listing_under list_in packet_under request_under row rows
seen u s bs = go (read_under u 24 s) refl
  where
    go : (o : Outcome (Value getblocktxn)) → read_under u 24 s ≡ o → Seen s (list_by (answered (λ v. P.GetBlockTxn (record { block_hash = 0; indexes = items_at 32 v.1 })) o)) o
    go (got v last) e = (refl, indexed_there s bs v (to_end_got (read getblocktxn) s (under_got u 24 s e).whole).0)
    go (stop r) e = refl

refused_seen : (s : List ℕ) {list : Result Listing Refusal} {r : Refusal} (q : Outcome (Value getblocktxn)) → Seen s list q → list ≡ Err r → q ≡ stop r
refused_seen s (got v last) x e = let a = x.0 in let z : ◌≡◌ {A = ℕ} 0 1 = cc in absurd (omega arith)
refused_seen s {r = r} (stop p) x e = let same : p ≡ r = cc in ap stop same

-- an index list that is read
record Read (s : List ℕ) (i : Items) (q : Outcome (Value getblocktxn)) : Type 0 where
  value : Value getblocktxn
  last : ℕ
  is : q ≡ got value last
  many : i.count ≡ length value.1
  indexed : Indexed s i value.1

indexes_seen : (s : List ℕ) {list : Result Listing Refusal} {i : Items} (q : Outcome (Value getblocktxn)) → Seen s list q → list ≡ Ok (L.Indexes i) → Read s i q
indexes_seen s {list} {i} (got v last) x e =
    let same : items_at 32 v.1 ≡ i = cc x.0 in
    subst (λ (j : Items). Read s j (got v last)) same (record { value = v; last = last; is = refl; many = refl; indexed = x.1 })
indexes_seen s (stop r) x e = let z : ◌≡◌ {A = ℕ} 0 1 = cc in absurd (omega arith)

-- a list that is read is an index list
never_other : (s : List ℕ) (list : Listing) (q : Outcome (Value getblocktxn)) → Seen s (Ok list) q → ((i : Items) → list ≡ L.Indexes i → ⊥) → ⊥
never_other s list (got v last) x q = q (items_at 32 v.1) (cc x.0)
never_other s list (stop r) x q = let z : ◌≡◌ {A = ℕ} 0 1 = cc in absurd (omega arith)

-- ---- the answers of `indexes`

-- an answer and the output after it
abbrev pub Answers : Terms → List ℕ → List ℕ → Result ℕ Refusal → List ℕ → Type 0
Answers u s o answer output = (answer ≡ (stored_under u s o).answer) × (output ≡ (stored_under u s o).output)

answers : {a : Result ℕ Refusal} {o' : List ℕ} {x : Answer} → record { answer = a; output = o' } ≡ x → (a ≡ x.answer) × (o' ≡ x.output)
answers e = (ap (λ (x : Answer). x.answer) e, ap (λ (x : Answer). x.output) e)

module _ (o : List ℕ) (v : Value getblocktxn) (last n : ℕ) (many : n ≡ length v.1) where
  short_by : length o < n → {q : Refusal} → q ≡ output_short n → record { answer = Err q; output = o } ≡ stored_by (got v last) o
  short_by h k =
      let over : length o < length v.1 = omega arith in
      rw (k, many, lt-leb (length v.1) (length o) over)

  fit_by : n ≤ length o → {o' : List ℕ} → o' ≡ splice o 0 v.1 → record { answer = Ok n; output = o' } ≡ stored_by (got v last) o
  fit_by h k =
      let fits : length v.1 ≤ length o = omega arith in
      rw (k, many, le-leb (length v.1) (length o) fits)

module _ (u : Terms) (s : List ℕ) (bs : Bytes s) {list : Result Listing Refusal} (e : list ≡ listing_under u 24 s) where
  by : Seen s list (request_under u s)
  by = subst (λ (l : Result Listing Refusal). Seen s l (request_under u s)) (sym e) (seen u s bs)

  pub indexes_refused : (o : List ℕ) {r : Refusal} → list ≡ Err r → Answers u s o (Err r) o
  unfolding stored_under
  indexes_refused o g = answers (rw (refused_seen s (request_under u s) by g))

  pub indexes_only : {x : Listing} → list ≡ Ok x → ((i : Items) → x ≡ L.Indexes i → ⊥) → ⊥
  indexes_only {x} g q = never_other s x (request_under u s) (subst (λ (l : Result Listing Refusal). Seen s l (request_under u s)) g by) q

  module _ {i : Items} (g : list ≡ Ok (L.Indexes i)) where
    r : Read s i (request_under u s)
    r = indexes_seen s (request_under u s) by g

    pub indexes_read : Reads i.count 0 s i.first
    indexes_read = record { indexes = r.value.1; last = r.indexed.last; reads = r.indexed.reads }

    pub indexes_short : (o : List ℕ) → length o < i.count → {q : Refusal} → q ≡ output_short i.count → Answers u s o (Err q) o
    unfolding stored_under
    indexes_short o h k = answers (short_by o r.value r.last i.count r.many h k ∙ sym (ap (λ (q : Outcome (Value getblocktxn)). stored_by q o) r.is))

    pub indexes_fit : (o : List ℕ) → i.count ≤ length o → {o' : List ℕ} → o' ≡ splice o 0 (indexes_of (indexes_from i.count 0 s i.first)) → Answers u s o (Ok i.count) o'
    unfolding stored_under
    indexes_fit o h k =
        answers (fit_by o r.value r.last i.count r.many h (k ∙ ap (λ (q : Outcome (List ℕ)). splice o 0 (indexes_of q)) r.indexed.reads) ∙ sym (ap (λ (q : Outcome (Value getblocktxn)). stored_by q o) r.is))
