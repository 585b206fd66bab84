-- The answers of lists: a count and records, and a stop hash after them. Assumes nothing.
use Prim.Native.Nat.{ℕ, ◌+◌, ◌-◌, ◌*◌, ◌/◌, ◌%◌, ◌^◌, ◌≤◌, ◌<◌}
use mathlib.Core.Path.{◌≡◌, refl, sym, ap, ◌∙◌, subst}
use mathlib.Core.List.{List, [], ◌∷◌}
use native.Mathlib.Omega.{arith}
use native.Mathlib.Nat.{div-add-mod', mod-lt, mul-le-mul_right}
use lib.ListN.{length}
use lib.Dec.{leb}
use borrow.Author.Tests.{le-leb, lt-leb}
use Rattle.hns_encoding.proofs.Blocks.{length_values}
use Rattle.std.specs.Prelude.{Ok, Err}
use Rattle.hns_encoding.specs.declared.Slice.{Slice}
use Rattle.hns_refusals.specs.declared.Refusal.{Refusal}
use Rattle.hns_refusals.specs.Limits.{max_locator}
use Rattle.hns_refusals.specs.Refusals.{Answer, locator_field}
use Rattle.hns_encoding.specs.Bytes.{Bytes, Outcome, got, stop, after, left, bytes_at, end_at, to_end}
use Rattle.hns_encoding.specs.Compact.{compact_bytes, count_at}
use Rattle.hns_encoding.specs.Format.{Format, raw, counted, ◌▸◌, read, widths, sum, Fixed, short, values_at}
use Rattle.hns_encoding.specs.Answers.{result_of, range_of, finished_of}
use Rattle.hns_encoding.proofs.Numbers.{part_length}
use Rattle.hns_encoding.proofs.Outcomes.{after_got, choose_got, bytes_got, end_got, count_got}
use Rattle.hns_encoding.proofs.Forward.{compact_got}
use Rattle.hns_encoding.proofs.Reading.{value_read, refusal_read, ends_answer}
use Rattle.hns_p2p_types.specs.declared.Items.{Items}
use Rattle.hns_p2p_types.specs.Packets.{items_at, locator_packet}
use Rattle.hns_p2p_lists.specs.Lists.{ListStands}
use Rattle.hns_p2p_lists.specs.Helpers.{records_at, list_at, made_of, whole_list, locator_of}
use Rattle.hns_p2p_lists.proofs.Lists.{listed}

-- ---- how `read` answers

pub list_refused : (limit field : ℕ) (ws s : List ℕ) {read : Answer (ℕ × ℕ)} → read ≡ result_of (count_at limit field s 0) → {r : Refusal} → read ≡ Err r → Err r ≡ result_of (list_at limit field ws s 0)
unfolding list_at
list_refused limit field ws s e g = ends_answer (count_at limit field s 0) _ e g

module _ (limit field : ℕ) (ws s : List ℕ) {read : Answer (ℕ × ℕ)} (e : read ≡ result_of (count_at limit field s 0)) {v first : ℕ} (g : read ≡ Ok (v, first)) (size : ℕ) where
  -- the product fits
  pub list_product : limit * size < 2 ^ 64 → v * size < 2 ^ 64
  list_product h =
      let most = (count_got limit field s 0 (value_read (count_at limit field s 0) e g)).1 in
      omega (arith, mul-le-mul_right size most)

  pub list_fits : size ≡ sum ws → v * size ≤ left s first → Ok (record { count = v; first = first }, first + v * size) ≡ result_of (list_at limit field ws s 0)
  unfolding result_of list_at records_at
  list_fits is h =
      let fits : v * sum ws ≤ left s first = rw is at h in
      rw (value_read (count_at limit field s 0) e g, le-leb (v * sum ws) (left s first) fits, is)

  pub list_short : size ≡ sum ws → 0 < size → left s first < v * size → {there : ℕ} → there ≡ left s first → {r : Refusal} → r ≡ short ws (first + (there - there % size)) (left s (first + (there - there % size)))
      → Err r ≡ result_of (list_at limit field ws s 0)
  unfolding result_of list_at records_at
  list_short is some h et q =
      let over : left s first < v * sum ws = rw is at h in
      let parts = div-add-mod' (left s first) (sum ws) in
      let whole : left s first / sum ws * sum ws ≡ left s first - left s first % sum ws = omega arith in
      let positive : 0 < sum ws = rw is at some in
      let below = mod-lt (left s first) positive in
      let rest : left s (first + (left s first - left s first % sum ws)) ≡ left s first % sum ws = omega arith in
      rw (value_read (count_at limit field s 0) e g, lt-leb (v * sum ws) (left s first) over, whole) (ap Err (q ∙ rw (et, is, rest)))

-- ---- the end of a payload

pub end_read : (o : Outcome (Unit {0})) {end : Answer (Unit {0})} {u : Unit {0}} → end ≡ finished_of o → end ≡ Ok u → (last : ℕ) × (o ≡ got tt last)
unfolding finished_of
end_read (got u last) e g = (last, refl)
end_read (stop r) e g = cc

pub end_refused : (o : Outcome (Unit {0})) {end : Answer (Unit {0})} {r : Refusal} → end ≡ finished_of o → end ≡ Err r → o ≡ stop r
unfolding finished_of
end_refused (got u last) e g = cc
end_refused (stop q) e g = cc

-- ---- bytes by where they stand

pub range_read : (o : Outcome (List ℕ)) {read : Answer Slice} {x : Slice} → read ≡ range_of o → read ≡ Ok x → (bs : List ℕ) × (o ≡ got bs x.end)
unfolding range_of
range_read (got bs next) {x = x} e g = let same : x ≡ record { start = next - length bs; end = next } = cc in (bs, ap (λ (r : Slice). got bs r.end) (sym same))
range_read (stop r) e g = cc

pub refused_range : (o : Outcome (List ℕ)) {read : Answer Slice} {r : Refusal} → read ≡ range_of o → read ≡ Err r → o ≡ stop r
unfolding range_of
refused_range (got bs next) e g = cc
refused_range (stop q) e g = cc

range_is : (o : Outcome (List ℕ)) {read : Answer Slice} {x : Slice} {bs : List ℕ} → read ≡ range_of o → read ≡ Ok x → o ≡ got bs x.end → x.start ≡ x.end - length bs
unfolding range_of
range_is (got bs next) {x = x} {bs = bs'} e g is =
    let same : x ≡ record { start = next - length bs; end = next } = cc in
    let bytes : bs ≡ bs' = cc in
    ap (λ (r : Slice). r.start) same ∙ rw (bytes, ap (λ (r : Slice). r.end) same)
range_is (stop r) e g is = cc

-- they stand at the place that they were read from
pub range_start : (n : ℕ) (s : List ℕ) (p : ℕ) {read : Answer Slice} {x : Slice} → read ≡ range_of (bytes_at n s p) → read ≡ Ok x → (x.start ≡ p) × (x.end ≡ p + n)
range_start n s p e g =
    let b = range_read (bytes_at n s p) e g in
    let is = range_is (bytes_at n s p) e g b.1 in
    let k = bytes_got n s p b.1 in
    let long : length b.0 ≡ n = ap length k.0 ∙ part_length s p n k.2 in
    (omega (arith, is, k.1), k.1)

-- ---- how a list that is the payload follows

module _ (limit field : ℕ) (ws s : List ℕ) {read : Answer (Items × ℕ)} (e : read ≡ result_of (list_at limit field ws s 0)) where
  pub whole_refused : {r : Refusal} → read ≡ Err r → Err r ≡ whole_list limit field ws s
  unfolding whole_list to_end
  whole_refused g = rw (refusal_read (list_at limit field ws s 0) e g)

  module _ {i : Items} {next : ℕ} (g : read ≡ Ok (i, next)) {end : Answer (Unit {0})} (f : end ≡ finished_of (end_at s next)) where
    pub whole_left : {r : Refusal} → end ≡ Err r → Err r ≡ whole_list limit field ws s
    unfolding whole_list to_end
    whole_left h = rw (value_read (list_at limit field ws s 0) e g, end_refused (end_at s next) f h)

    pub whole_read : {u : Unit {0}} → end ≡ Ok u → Ok i ≡ whole_list limit field ws s
    unfolding whole_list to_end
    whole_read h = rw (value_read (list_at limit field ws s 0) e g, (end_read (end_at s next) f h).1)

-- ---- where a count's items begin

pub count_place : (s : List ℕ) → Bytes s → (limit field p : ℕ) {n next : ℕ} → count_at limit field s p ≡ got n next → next ≡ p + length (compact_bytes n)
count_place s bs limit field p {n} {next} e =
    let k = compact_got s bs p n next (count_got limit field s p e).0 in
    let long : length (compact_bytes n) ≡ next - p = ap length k.same ∙ part_length s p (next - p) (omega (arith, k.low, k.inside)) in
    omega (arith, k.low)

begins : {n m : ℕ} {i : Items} → record { count = n; first = m } ≡ i → m ≡ 0 + length (compact_bytes n) → i ≡ record { count = i.count; first = 0 + length (compact_bytes i.count) }
begins {n} is e = subst (λ (i : Items). i ≡ record { count = i.count; first = 0 + length (compact_bytes i.count) }) is (ap (λ (k : ℕ). record { count = n; first = k }) e)

list_place : (limit field : ℕ) (ws s : List ℕ) → Bytes s → (i : Items) (next : ℕ) → list_at limit field ws s 0 ≡ got i next → i ≡ record { count = i.count; first = 0 + length (compact_bytes i.count) }
unfolding list_at records_at
list_place limit field ws s bs i next e =
    let g = after_got (count_at limit field s 0) _ e in
    let h = choose_got (leb (g.0 * sum ws) (left s g.1)) _ _ g.3 in
    begins (cc h.1) (count_place s bs limit field 0 g.2)

-- ---- a list that is the payload

pub list_answer : (limit field : ℕ) (f : Format) (x : Fixed f) (s : List ℕ) → Bytes s → whole_list limit field (widths f) s ≡ made_of (items_at 0) (to_end (read (counted limit field f)) s)
unfolding whole_list to_end
list_answer limit field f x s bs = rw (listed f x s limit field 0) (go (list_at limit field (widths f) s 0) refl)
  where
    ended : (i : Items) → i ≡ record { count = i.count; first = 0 + length (compact_bytes i.count) } → (o : Outcome (Unit {0})) → made_of (λ (i : Items). i) (after o (λ u last. got i last)) ≡ made_of (items_at 0) (after o (λ u last. got (values_at f x i.count s i.first) last))
    ended i is (got u last) = ap Ok (is ∙ rw (length_values f x i.count s i.first))
    ended i is (stop r) = refl

    go : (o : Outcome Items) → list_at limit field (widths f) s 0 ≡ o
        → made_of (λ (i : Items). i) (after o (λ v at. after (end_at s at) (λ u last. got v last))) ≡ made_of (items_at 0) (after (after o (λ i last. got (values_at f x i.count s i.first) last)) (λ v at. after (end_at s at) (λ u last. got v last)))
    go (got i next) e = ended i (list_place limit field (widths f) s bs i next e) (end_at s next)
    go (stop r) e = refl

-- the items that a list reads as are what stands from its packet's first place on
pub list_stands : ListStands
list_stands limit field f x s bs v last e =
    let g = after_got (list_at limit field (widths f) s 0) _ (sym (listed f x s limit field 0) ∙ e) in
    let i = g.0 in
    stands i (list_place limit field (widths f) s bs i g.1 g.2) (cc g.3)
  where
    stands : (i : Items) → i ≡ record { count = i.count; first = 0 + length (compact_bytes i.count) } → values_at f x i.count s i.first ≡ v → v ≡ values_at f x (items_at 0 v).count s (items_at 0 v).first
    stands i is q =
        let n : i.count ≡ length v = sym (length_values f x i.count s i.first) ∙ ap length q in
        let place : i.first ≡ 0 + length (compact_bytes (length v)) = ap (λ (j : Items). j.first) is ∙ ap (λ (k : ℕ). 0 + length (compact_bytes k)) n in
        sym q ∙ (ap (λ (k : ℕ). values_at f x k s i.first) n ∙ ap (values_at f x (length v) s) place)

-- ---- a list and a stop hash

read_two : (f g : Format) (s : List ℕ) (p : ℕ) → read (f ▸ g) s p ≡ after (read f s p) (λ a next. after (read g s next) (λ b last. got (a, b) last))
unfolding read
read_two f g s p = refl

read_raw : (n : ℕ) (s : List ℕ) (p : ℕ) → read (raw n) s p ≡ bytes_at n s p
unfolding read
read_raw n s p = refl

-- a locator is read by its list, its hash and the end
by_parts : (s : List ℕ) → locator_of s ≡ made_of (locator_packet s) (after (after (after (list_at max_locator locator_field (32 ∷ []) s 0) (λ i last. got (values_at (raw 32) tt i.count s i.first) last)) (λ a next. after (read (raw 32) s next) (λ b last. got (a, b) last))) (λ v at. after (end_at s at) (λ u last. got v last)))
unfolding locator_of to_end
by_parts s = rw (read_two (counted max_locator locator_field (raw 32)) (raw 32) s 0, listed (raw 32) tt s max_locator locator_field 0)

module _ (s : List ℕ) {read : Answer (Items × ℕ)} (e : read ≡ result_of (list_at max_locator locator_field (32 ∷ []) s 0)) where
  pub locator_list : {r : Refusal} → read ≡ Err r → Err r ≡ locator_of s
  locator_list g = rw (by_parts s, refusal_read (list_at max_locator locator_field (32 ∷ []) s 0) e g)

  module _ {i : Items} {next : ℕ} (g : read ≡ Ok (i, next)) {hash : Answer Slice} (f : hash ≡ range_of (bytes_at 32 s next)) where
    listed_so : list_at max_locator locator_field (32 ∷ []) s 0 ≡ got i next
    listed_so = value_read (list_at max_locator locator_field (32 ∷ []) s 0) e g

    pub locator_hash : {r : Refusal} → hash ≡ Err r → Err r ≡ locator_of s
    locator_hash h = rw (by_parts s, listed_so, read_raw 32 s next, refused_range (bytes_at 32 s next) f h)

    module _ {x : Slice} (h : hash ≡ Ok x) {end : Answer (Unit {0})} (k : end ≡ finished_of (end_at s x.end)) where
      pub locator_left : {r : Refusal} → end ≡ Err r → Err r ≡ locator_of s
      locator_left j = rw (by_parts s, listed_so, read_raw 32 s next, (range_read (bytes_at 32 s next) f h).1, end_refused (end_at s x.end) k j)

      pub locator_read : Bytes s → {u : Unit {0}} → end ≡ Ok u → Ok (record { locator = i; stop = x.start }) ≡ locator_of s
      locator_read bs j =
          let bytes = range_read (bytes_at 32 s next) f h in
          let at = range_start 32 s next f h in
          let last = end_read (end_at s x.end) k j in
          let place : x.start ≡ length s - 32 = omega (arith, at.0, at.1, (bytes_got 32 s next bytes.1).2, (end_got s x.end last.1).1) in
          let is = list_place max_locator locator_field (32 ∷ []) s bs i next listed_so in
          let same : i ≡ items_at 0 (values_at (raw 32) tt i.count s i.first) = is ∙ rw (length_values (raw 32) tt i.count s i.first) in
          rw (by_parts s, listed_so, read_raw 32 s next, bytes.1, last.1)
          (ap (λ (k : ℕ). Ok (record { locator = i; stop = k })) place ∙ ap (λ (j : Items). Ok (record { locator = j; stop = length s - 32 })) same)
