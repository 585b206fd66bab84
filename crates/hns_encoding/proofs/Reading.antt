-- How the answers of the reads follow from the tests that they make. Assumes nothing.
use Prim.Native.Nat.{ℕ, suc, zero, ◌+◌, ◌-◌, ◌*◌, ◌^◌, ◌≤◌, ◌<◌}
use mathlib.Core.Path.{◌≡◌, refl, sym, ap, ◌∙◌}
use mathlib.Core.List.{List}
use native.Mathlib.Omega.{arith}
use mathlib.Core.Logic.{⊎_elim}
use mathlib.Core.Bool.{Bool, true, false}
use lib.Dec.{leb, eqb}
use lib.ListN.{length, get_or, replicate}
use lib.Seq.{take_all, take-take, drop-drop}
use Rattle.std.specs.Prelude.{take, drop}
use Rattle.std.proofs.lemmas.List.{drop-take}
use lib.ListN.{length-drop, length-replicate}
use borrow.Author.Tests.{le-leb, lt-leb, lt-ltb, le-ltb, eq-eqb, ne_eqb}
use Rattle.std.specs.Prelude.{Result, Ok, Err}
use Rattle.std.specs.Int.{Width, byte_len, byte_worth, sum_through, from_le_bytes}
use Rattle.hns_encoding.specs.declared.Slice.{Slice}
use Rattle.hns_refusals.specs.declared.Refusal.{Refusal}
use Rattle.hns_refusals.specs.Refusals.{unexpected_end, not_shortest, trailing_bytes, over_limit}
use Rattle.hns_encoding.specs.Bytes.{le, Outcome, got, stop, after, choose, part, bytes_at, le_at, number_at, raw_at, end_at}
use Rattle.hns_encoding.specs.Compact.{wide_at, compact_from, compact_at, count_at, bounded_at, varbytes_at}
use Rattle.hns_encoding.specs.Answers.{result_of, range_of, finished_of}
use Rattle.hns_encoding.specs.Helpers.{by_form}
use Rattle.hns_encoding.proofs.Numbers.{lt_or_ge, part_length, byte_part, le_one, le_part_add}
use Rattle.hns_encoding.proofs.Outcomes.{after_got, choose_got, bytes_got}

module _ (n : ℕ) (s : List ℕ) (p : ℕ) where
  pub number_there : n ≤ length s - p → number_at n s p ≡ le (part s p n)
  unfolding number_at
  number_there h = simp (le-leb _ _ h)

  number_short : length s - p < n → 0 ≡ number_at n s p
  unfolding number_at
  number_short h = simp (lt-leb _ _ h)

  pub raw_there : n ≤ length s - p → raw_at n s p ≡ part s p n
  unfolding raw_at
  raw_there h = simp (le-leb _ _ h)

  pub raw_missing : length s - p < n → replicate n 0 ≡ raw_at n s p
  unfolding raw_at
  raw_missing h = simp (lt-leb _ _ h)

pub byte_number : (s : List ℕ) (p : ℕ) → p < length s → get_or s p 0 ≡ le (part s p 1)
byte_number s p h = sym (ap le (byte_part s p h) ∙ le_one (get_or s p 0))

-- what the library makes of n bytes is the number that they are
worth : (i b : ℕ) → byte_worth i b ≡ 256 ^ i * b
worth zero b = omega arith
worth (suc i) b = omega arith

le_sum : (bs : List ℕ) (k : ℕ) → k < length bs → sum_through (λ i. byte_worth i (get_or bs i 0)) k ≡ le (part bs 0 (suc k))
le_sum bs zero h = byte_number bs 0 h
le_sum bs (suc k) h =
    let at : 0 + suc k ≡ suc k = omega arith in
    let more : suc (suc k) ≡ suc k + 1 = omega arith in
    let byte : le (part bs (0 + suc k) 1) ≡ get_or bs (suc k) 0 = rw at (sym (byte_number bs (suc k) h)) in
    rw (more, le_part_add bs 0 (suc k) 1 (omega arith), byte, le_sum bs k (omega arith), worth (suc k))

pub le_from : (w : Width) (bs : List ℕ) → 0 < byte_len w → length bs ≡ byte_len w → from_le_bytes w bs ≡ le bs
le_from w bs z e =
    let one : suc (byte_len w - 1) ≡ length bs = omega arith in
    le_sum bs (byte_len w - 1) (omega arith) ∙ rw one (ap le (take_all (length bs) bs (omega arith)))

le_zeros : (n : ℕ) → le (replicate n 0) ≡ 0
unfolding le
le_zeros zero = refl
le_zeros (suc n) = rw (le_zeros n)

-- the number of an array at a place is the number at that place
pub number_is : (w : Width) → 0 < byte_len w → (s : List ℕ) (p : ℕ) {a : List ℕ} → a ≡ raw_at (byte_len w) s p → from_le_bytes w a ≡ number_at (byte_len w) s p
number_is w z s p e = ap (from_le_bytes w) e ∙ ⊎_elim missing there (lt_or_ge (length s - p) (byte_len w))
  where
    missing : length s - p < byte_len w → from_le_bytes w (raw_at (byte_len w) s p) ≡ number_at (byte_len w) s p
    missing h = ap (from_le_bytes w) (sym (raw_missing _ s p h)) ∙ le_from w (replicate (byte_len w) 0) z (length-replicate _ _) ∙ le_zeros (byte_len w) ∙ number_short _ s p h

    there : byte_len w ≤ length s - p → from_le_bytes w (raw_at (byte_len w) s p) ≡ number_at (byte_len w) s p
    there h = ap (from_le_bytes w) (raw_there _ s p h) ∙ le_from w (part s p (byte_len w)) z (part_length s p _ h) ∙ sym (number_there _ s p h)

-- an array's first bytes are those at the place, and a place that is too near the end has zeros
pub array_there : (n : ℕ) (s : List ℕ) (p : ℕ) {a : List ℕ} → n ≤ length (drop p s) → a ≡ take n (drop p s) → a ≡ raw_at n s p
array_there n s p h e = e ∙ sym (raw_there n s p (omega (arith, length-drop p s)))

pub array_missing : (n : ℕ) (s : List ℕ) (p : ℕ) → length (drop p s) < n → replicate n 0 ≡ raw_at n s p
array_missing n s p h = raw_missing n s p (omega (arith, length-drop p s))

-- bytes of a part are bytes of the whole
take_inside : (a m n : ℕ) (l : List ℕ) → a + m ≤ n → take m (drop a (take n l)) ≡ take m (drop a l)
take_inside a m n l h =
    let split : n ≡ a + (n - a) = omega arith in
    ap (λ (k : ℕ). take m (drop a (take k l))) split ∙ ap (take m) (drop-take a (n - a) l) ∙ take-take m (n - a) (drop a l) (omega arith)

pub part_inside : (s : List ℕ) (p w q n : ℕ) → q + n ≤ w → part (part s p w) q n ≡ part s (p + q) n
part_inside s p w q n k = take_inside q n w (drop p s) k ∙ ap (take n) (drop-drop q p s)

pub number_inside : (s : List ℕ) (p w q n : ℕ) → w ≤ length s - p → q + n ≤ w → number_at n (part s p w) q ≡ number_at n s (p + q)
number_inside s p w q n h k =
    let long = part_length s p w h in
    number_there n (part s p w) q (omega arith) ∙ ap le (part_inside s p w q n k) ∙ sym (number_there n s (p + q) (omega arith))

-- a read that fits, and one that does not
pub array_read : (n : ℕ) (s : List ℕ) (p : ℕ) {a : List ℕ} → n ≤ length (drop p s) → a ≡ take n (drop p s) → Ok (a, p + n) ≡ result_of (bytes_at n s p)
unfolding result_of bytes_at
array_read n s p h e = let there : n ≤ length s - p = omega (arith, length-drop p s) in simp (le-leb _ _ there, e)

pub array_short : (n : ℕ) (s : List ℕ) (p : ℕ) → length (drop p s) < n → {r : Refusal} → r ≡ unexpected_end p (n - (length s - p)) → Err r ≡ result_of (bytes_at n s p)
unfolding result_of bytes_at
array_short n s p h e = let missing : length s - p < n = omega (arith, length-drop p s) in rw e (simp (lt-leb _ _ missing))

pub range_fits : (n : ℕ) (s : List ℕ) (p : ℕ) → n ≤ length s - p → Ok (record { start = p; end = p + n }) ≡ range_of (bytes_at n s p)
unfolding range_of bytes_at
range_fits n s p h =
    let start : p + n - length (part s p n) ≡ p = omega (arith, part_length s p n h) in
    simp (le-leb _ _ h, start)

pub range_short : (n : ℕ) (s : List ℕ) (p : ℕ) → length s - p < n → {r : Refusal} → r ≡ unexpected_end p (n - (length s - p)) → Err r ≡ range_of (bytes_at n s p)
unfolding range_of bytes_at
range_short n s p h e = rw e (simp (lt-leb _ _ h))

pub finish_done : (s : List ℕ) (p : ℕ) → length s - p ≡ 0 → Ok tt ≡ finished_of (end_at s p)
unfolding finished_of end_at
finish_done s p h = simp (eq-eqb _ _ h)

pub finish_left : (s : List ℕ) (p : ℕ) → (length s - p ≡ 0 → ⊥) → Err (trailing_bytes (length s - p)) ≡ finished_of (end_at s p)
unfolding finished_of end_at
finish_left s p h = simp (ne_eqb _ _ h)

-- what a read answered: a value with the place after it, or the refusal
module _ {A : Type 0} where
  pub value_read : (o : Outcome A) {read : Result (A × ℕ) Refusal} {v : A} {next : ℕ} → read ≡ result_of o → read ≡ Ok (v, next) → o ≡ got v next
  unfolding result_of
  value_read (got a m) {v = v} {next = next} e g = let same : (v, next) ≡ (a, m) = cc in ap (λ (x : A × ℕ). got x.0 x.1) (sym same)
  value_read (stop r) e g = cc

  pub refusal_read : (o : Outcome A) {read : Result (A × ℕ) Refusal} {r : Refusal} → read ≡ result_of o → read ≡ Err r → o ≡ stop r
  unfolding result_of
  refusal_read (got a m) e g = cc
  refusal_read (stop q) e g = cc

  -- a read that gave a value goes on with it, and a refused one ends there
  module _ {B : Type 0} (o : Outcome A) (k : A → ℕ → Outcome B) {read : Result (A × ℕ) Refusal} where
    pub goes_on : {v : A} {next : ℕ} → read ≡ result_of o → read ≡ Ok (v, next) → after o k ≡ k v next
    goes_on e g = rw (value_read o e g)

    pub ends : {r : Refusal} → read ≡ result_of o → read ≡ Err r → after o k ≡ stop r
    ends e g = rw (refusal_read o e g)

    pub ends_answer : {r : Refusal} → read ≡ result_of o → read ≡ Err r → Err r ≡ result_of (after o k)
    unfolding result_of
    ends_answer e g = rw (ends e g)

    pub goes_answer : {v : A} {next : ℕ} → read ≡ result_of o → read ≡ Ok (v, next) → result_of (k v next) ≡ result_of (after o k)
    goes_answer e g = ap result_of (sym (goes_on e g))

-- and so of bytes by where they stand
range_read : (o : Outcome (List ℕ)) {read : Result Slice Refusal} {x : Slice} → read ≡ range_of o → read ≡ Ok x → (bs : List ℕ) × (o ≡ got bs x.end)
unfolding range_of
range_read (got bs next) {x = x} e g = let same : x ≡ record { start = next - length bs; end = next } = cc in (bs, ap (λ (r : Slice). got bs r.end) (sym same))
range_read (stop r) e g = cc

refused_range : (o : Outcome (List ℕ)) {read : Result Slice Refusal} {r : Refusal} → read ≡ range_of o → read ≡ Err r → o ≡ stop r
unfolding range_of
refused_range (got bs next) e g = cc
refused_range (stop q) e g = cc

-- a number is that of the bytes that were read
module _ (w : Width) (z : 0 < byte_len w) (s : List ℕ) (p : ℕ) {read : Result (List ℕ × ℕ) Refusal} (e : read ≡ result_of (bytes_at (byte_len w) s p)) where
  pub number_read : {a : List ℕ} {next v : ℕ} → read ≡ Ok (a, next) → v ≡ from_le_bytes w a → Ok (v, next) ≡ result_of (le_at (byte_len w) s p)
  unfolding le_at result_of
  number_read {a} {next} g f =
      let was = value_read (bytes_at (byte_len w) s p) e g in
      let long : length a ≡ byte_len w = let b = bytes_got _ s p was in ap length b.0 ∙ part_length s p _ b.2 in
      rw (was, f, le_from w a z long)

-- no form is wider than eight bytes
pub width_most : (first : ℕ) → by_form first 2 4 8 ≤ 8
unfolding by_form
width_most first = most (eqb first 253) (eqb first 254)
  where
    most : (a b : Bool) → choose a 2 (choose b 4 8) ≤ 8
    most true b = omega arith
    most false true = omega arith
    most false false = omega arith

-- the number of a wide form by its bytes: they are not all there, or a shorter form has it, or it is read
module _ (n least : ℕ) (s : List ℕ) (p : ℕ) {read : Result Slice Refusal} (e : read ≡ range_of (bytes_at n s p)) where
  pub wide_short : {r : Refusal} → read ≡ Err r → Err r ≡ result_of (wide_at n least s p)
  unfolding wide_at le_at result_of
  wide_short g = rw (refused_range (bytes_at n s p) e g)

  module _ {x : Slice} (g : read ≡ Ok x) {v : ℕ} (is : v ≡ number_at n s p) where
    wide_read : (le_at n s p ≡ got v (p + n)) × (x.end ≡ p + n)
    unfolding le_at
    wide_read =
        let was = range_read (bytes_at n s p) e g in
        let b = bytes_got n s p was.1 in
        let same : le was.0 ≡ v = ap le b.0 ∙ sym (is ∙ number_there n s p b.2) in
        (rw (was.1, same, b.1), b.1)

    pub wide_low : v < least → Err (not_shortest (8 * n)) ≡ result_of (wide_at n least s p)
    unfolding wide_at result_of
    wide_low h = rw wide_read.0 (simp (lt-leb _ _ h))

    pub wide_fits : least ≤ v → Ok (v, x.end) ≡ result_of (wide_at n least s p)
    unfolding wide_at result_of
    wide_fits h = rw (wide_read.0, wide_read.1) (simp (le-leb _ _ h))

-- a compact size by its first byte
module _ (first : ℕ) (s : List ℕ) (p : ℕ) where
  pub first_is_all : first < 253 → Ok (first, p) ≡ result_of (compact_from first s p)
  unfolding compact_from result_of
  first_is_all h = simp (lt-ltb _ _ h)

  -- the number that is picked is the one of the width that is picked
  pub number_picked : {two four eight v w : ℕ} → two ≡ number_at 2 s p → four ≡ number_at 4 s p → eight ≡ number_at 8 s p → v ≡ by_form first two four eight → w ≡ by_form first 2 4 8 → v ≡ number_at w s p
  unfolding by_form
  number_picked a b c ev ew = rw (ev, a, b, c, ew) (picked (eqb first 253) (eqb first 254))
    where
      picked : (a b : Bool) → choose a (number_at 2 s p) (choose b (number_at 4 s p) (number_at 8 s p)) ≡ number_at (choose a 2 (choose b 4 8)) s p
      picked true b = refl
      picked false true = refl
      picked false false = refl

  -- and so is the form
  pub form_picked : 253 ≤ first → {w least : ℕ} → w ≡ by_form first 2 4 8 → least ≡ by_form first 253 65536 4294967296 → wide_at w least s p ≡ compact_from first s p
  unfolding by_form compact_from
  form_picked h ew el = simp (le-ltb _ _ h) (rw (ew, el) (picked (eqb first 253) (eqb first 254)))
    where
      picked : (a b : Bool) → wide_at (choose a 2 (choose b 4 8)) (choose a 253 (choose b 65536 4294967296)) s p ≡ choose a (wide_at 2 253 s p) (choose b (wide_at 4 65536 s p) (wide_at 8 4294967296 s p))
      picked true b = refl
      picked false true = refl
      picked false false = refl

-- a compact size goes on after its first byte
pub compact_read : (s : List ℕ) (p : ℕ) {read : Result (ℕ × ℕ) Refusal} {first next : ℕ} → read ≡ result_of (le_at 1 s p) → read ≡ Ok (first, next) → result_of (compact_from first s next) ≡ result_of (compact_at s p)
unfolding compact_at
compact_read s p e g = goes_answer (le_at 1 s p) _ e g

-- a compact size that its limit allows, and one that it does not
module _ (limit field : ℕ) (s : List ℕ) (p : ℕ) {read : Result (ℕ × ℕ) Refusal} {v next : ℕ} (e : read ≡ result_of (compact_at s p)) (g : read ≡ Ok (v, next)) where
  pub count_fits : v ≤ limit → Ok (v, next) ≡ result_of (count_at limit field s p)
  unfolding count_at result_of
  count_fits h = rw (goes_on (compact_at s p) _ e g) (simp (le-leb _ _ h))

  pub count_over : limit < v → Err (over_limit v limit field) ≡ result_of (count_at limit field s p)
  unfolding count_at result_of
  count_over h = rw (goes_on (compact_at s p) _ e g) (simp (lt-leb _ _ h))

-- and so of bytes
module _ (n limit : ℕ) (s : List ℕ) (p : ℕ) where
  pub bounded_fits : n ≤ limit → range_of (bytes_at n s p) ≡ range_of (bounded_at n limit s p)
  unfolding bounded_at
  bounded_fits h = simp (le-leb _ _ h)

  pub bounded_over : limit < n → Err (over_limit n limit 0) ≡ range_of (bounded_at n limit s p)
  unfolding bounded_at range_of
  bounded_over h = simp (lt-leb _ _ h)

-- bytes after their count
module _ (limit : ℕ) (s : List ℕ) (p : ℕ) {read : Result (ℕ × ℕ) Refusal} (e : read ≡ result_of (count_at limit 0 s p)) where
  pub varbytes_read : {n next : ℕ} → read ≡ Ok (n, next) → range_of (bounded_at n limit s next) ≡ range_of (varbytes_at limit s p)
  unfolding varbytes_at
  varbytes_read g = ap range_of (sym (goes_on (count_at limit 0 s p) _ e g))

  pub varbytes_ends : {r : Refusal} → read ≡ Err r → Err r ≡ range_of (varbytes_at limit s p)
  unfolding varbytes_at range_of
  varbytes_ends g = rw (ends (count_at limit 0 s p) _ e g)

-- the bytes that a slice's answer names are those that were read
pub slice_is : (n : ℕ) (s : List ℕ) (p : ℕ) {bs : List ℕ} {next : ℕ} → bytes_at n s p ≡ got bs next → part s (next - length bs) (length bs) ≡ bs
slice_is n s p {bs} {next} e =
    let g = bytes_got n s p e in
    let long : length bs ≡ n = ap length g.0 ∙ part_length s p n g.2 in
    let start : next - n ≡ p = omega (arith, g.1) in
    rw (long, start) (sym g.0)

pub varbytes_is : (limit : ℕ) (s : List ℕ) (p : ℕ) {bs : List ℕ} {next : ℕ} → varbytes_at limit s p ≡ got bs next → part s (next - length bs) (length bs) ≡ bs
unfolding varbytes_at bounded_at
varbytes_is limit s p e =
    let x = after_got (count_at limit 0 s p) _ e in
    slice_is x.0 s x.1 (choose_got (leb x.0 limit) _ _ x.3).1
