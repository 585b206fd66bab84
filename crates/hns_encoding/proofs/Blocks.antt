-- A format without counts reads as one block, whose widths its texts and tags say: its value where it fits, else the refusal of the first read that does not fit. One of fixed size writes as many bytes as it reads.
use Prim.Native.Nat.{ℕ, zero, suc, ◌+◌, ◌-◌, ◌*◌, ◌≤◌, ◌<◌}
use mathlib.Core.Path.{◌≡◌, refl, ap}
use mathlib.Core.List.{List, [], ◌∷◌, ◌++◌, map}
use mathlib.Core.Logic.{⊎_elim}
use native.Mathlib.Omega.{arith}
use native.Mathlib.Nat.{suc-mul}
use lib.ListN.{length, length-append, length-replicate}
use lib.Dec.{eqb}
use borrow.Author.Tests.{le-leb, lt-leb}
use Rattle.hns_encoding.specs.Bytes.{Outcome, got, stop, after, part, left, bytes_at, le_at, number_at, to_end}
use Rattle.hns_encoding.specs.Format.{Format, nothing, num, raw, reserved, host, flag, text, counted, indexes, whole, tagged, ◌▸◌, read, write, low7, ip_of, widths, sum, size, Fixed, fixed_flat, widths_at, short, value_at, values_at, Value, All, Fit, write_all}
use Rattle.hns_encoding.specs.Laws.{Block, ReadsAsBlock, WritesAsMany}
use Rattle.hns_encoding.proofs.Numbers.{lt_or_ge, length_le_bytes, part_length}
use Rattle.hns_encoding.proofs.Outcomes.{bytes_fits, bytes_short, to_end_fits}
use Rattle.hns_encoding.proofs.Reading.{number_there}

pub sum_append : (xs ys : List ℕ) → sum (xs ++ ys) ≡ sum xs + sum ys
sum_append [] ys = omega arith
sum_append (x ∷ xs) ys = omega (arith, sum_append xs ys)

-- ---- where too few bytes end

short_append : (xs ys : List ℕ) (p there : ℕ) → sum xs ≤ there → short (xs ++ ys) p there ≡ short ys (p + sum xs) (there - sum xs)
short_append [] ys p there h =
    let place : p + 0 ≡ p = omega arith in
    let same : there - 0 ≡ there = omega arith in
    rw (place, same)
short_append (x ∷ xs) ys p there h =
    let a : x ≤ there = omega arith in
    let more = short_append xs ys (p + x) (there - x) (omega arith) in
    let place : p + x + sum xs ≡ p + (x + sum xs) = omega arith in
    let rest : there - x - sum xs ≡ there - (x + sum xs) = omega arith in
    rw (le-leb _ _ a, more, place, rest)

short_first : (xs ys : List ℕ) (p there : ℕ) → there < sum xs → short (xs ++ ys) p there ≡ short xs p there
short_first [] ys p there h = absurd (omega arith)
short_first (x ∷ xs) ys p there h =
    ⊎_elim (λ a. rw (lt-leb x there a)) (λ a. rw (le-leb x there a) (short_first xs ys (p + x) (there - x) (omega arith))) (lt_or_ge there x)

-- ---- blocks

-- a read of n bytes is a block of one width
bytes_block : (n : ℕ) (s : List ℕ) (p : ℕ) → Block (bytes_at n s p) (n ∷ []) (part s p n) s p
bytes_block n s p =
    let one : n + 0 ≡ n = omega arith in
    rw one (λ h. bytes_fits n s p h, λ h. rw (bytes_short n s p h, lt-leb _ _ h))

-- a block's value may be made into another
made_block : {A B : Type 0} (g : A → B) (o : Outcome A) (ws : List ℕ) (v : A) (s : List ℕ) (p : ℕ) → Block o ws v s p → Block (after o (λ a next. got (g a) next)) ws (g v) s p
made_block g o ws v s p h = (λ k. rw (h.0 k), λ k. rw (h.1 k))

number_block : (n : ℕ) (s : List ℕ) (p : ℕ) → Block (le_at n s p) (n ∷ []) (number_at n s p) s p
unfolding le_at
number_block n s p =
    let one : n + 0 ≡ n = omega arith in
    rw one (λ h. rw (bytes_fits n s p h, number_there n s p h), λ h. rw (bytes_short n s p h, lt-leb _ _ h))

-- two blocks are one; what the second is may depend on the first's value
two_blocks : {A : Type 0} {B : A → Type 0} {C : Type 0} (h : (x : A) → B x → C) (f : List ℕ → ℕ → Outcome A) (g : (x : A) → List ℕ → ℕ → Outcome (B x)) (ws vs : List ℕ) (a : A) (b : B a) (s : List ℕ) (p : ℕ)
    → Block (f s p) ws a s p → Block (g a s (p + sum ws)) vs b s (p + sum ws)
    → Block (after (f s p) (λ x next. after (g x s next) (λ y last. got (h x y) last))) (ws ++ vs) (h a b) s p
two_blocks h f g ws vs a b s p one two =
    let both = sum_append ws vs in
    let end : p + sum (ws ++ vs) ≡ p + sum ws + sum vs = omega arith in
    let rest : length s - (p + sum ws) ≡ length s - p - sum ws = omega arith in (
      λ k. rw (one.0 (omega arith), two.0 (omega arith), end),
      λ k. ⊎_elim (λ m. rw (one.1 m, short_first ws vs p (left s p) m)) (λ m. rw (one.0 m, two.1 (omega arith), short_append ws vs p (left s p) m, rest)) (lt_or_ge (left s p) (sum ws)),
    )

-- n bytes that are a block of their own
whole_block : {A : Type 0} (n : ℕ) (item : List ℕ → ℕ → Outcome A) (ws : List ℕ) (v : A) (s : List ℕ) (p : ℕ) → sum ws ≡ n → Block (item (part s p n) 0) ws v (part s p n) 0
    → Block (after (bytes_at n s p) (λ bs next. after (to_end item bs) (λ u last. got u next))) (n ∷ []) v s p
whole_block n item ws v s p all inner =
    let one : n + 0 ≡ n = omega arith in
    rw one (
      λ h.
          let long = part_length s p n h in
          rw (bytes_fits n s p h, to_end_fits item (part s p n) (inner.0 (omega arith)) (omega arith)),
      λ h. rw (bytes_short n s p h, lt-leb _ _ h),
    )

-- a format of fixed size has its widths at every place
fixed_widths : (f : Format) → Fixed f → (s : List ℕ) (p : ℕ) → widths_at f s p ≡ widths f
fixed_widths nothing x s p = refl
fixed_widths (num n) x s p = refl
fixed_widths (raw n) x s p = refl
fixed_widths (reserved n) x s p = refl
fixed_widths host x s p = refl
fixed_widths flag x s p = refl
fixed_widths (text field) x s p = absurd x
fixed_widths (counted limit field f) x s p = absurd x
fixed_widths indexes x s p = absurd x
fixed_widths (whole n f) x s p = refl
fixed_widths (tagged k) x s p = absurd x
fixed_widths (f ▸ g) x s p = rw (fixed_widths f x.0 s p, fixed_widths g x.1 s (p + sum (widths f)))

-- A format without counts is a block.
pub block : ReadsAsBlock
unfolding read
block nothing x s p = (λ h. ap (got tt) (omega arith), λ h. absurd (omega arith))
block (num n) x s p = number_block n s p
block (raw n) x s p = bytes_block n s p
block (reserved n) x s p = made_block (λ bs. tt) (bytes_at n s p) (n ∷ []) (part s p n) s p (bytes_block n s p)
block host x s p = two_blocks ip_of (le_at 1) (λ k. bytes_at 36) (1 ∷ []) (36 ∷ []) (number_at 1 s p) (part s (p + 1) 36) s p (number_block 1 s p) (bytes_block 36 s (p + 1))
block flag x s p = made_block (λ n. eqb n 1) (le_at 1 s p) (1 ∷ []) (number_at 1 s p) s p (number_block 1 s p)
block (text field) x s p =
    two_blocks (λ n bs. map low7 bs) (le_at 1) bytes_at (1 ∷ []) (number_at 1 s p ∷ []) (number_at 1 s p) (part s (p + 1) (number_at 1 s p)) s p (number_block 1 s p) (bytes_block (number_at 1 s p) s (p + 1))
block (counted limit field f) x s p = absurd x
block indexes x s p = absurd x
block (whole n f) x s p =
    whole_block n (read f) (widths f) (value_at f (fixed_flat f x.1) (part s p n) 0) s p x.0 (rw (fixed_widths f x.1 (part s p n) 0) at (block f (fixed_flat f x.1) (part s p n) 0))
block (tagged k) x s p =
    let t = number_at 1 s p in
    two_blocks (λ t v. (t, v)) (le_at 1) (λ t. read (k t)) (1 ∷ []) (widths_at (k t) s (p + 1)) t (value_at (k t) (x t) s (p + 1)) s p (number_block 1 s p) (block (k t) (x t) s (p + 1))
block (f ▸ g) x s p =
    let q = p + sum (widths_at f s p) in
    two_blocks (λ a b. (a, b)) (read f) (λ a. read g) (widths_at f s p) (widths_at g s q) (value_at f x.0 s p) (value_at g x.1 s q) s p (block f x.0 s p) (block g x.1 s q)

-- of fixed size
fixed_block : (f : Format) (x : Fixed f) (s : List ℕ) (p : ℕ) → Block (read f s p) (widths f) (value_at f (fixed_flat f x) s p) s p
fixed_block f x s p = rw (fixed_widths f x s p) at (block f (fixed_flat f x) s p)

pub block_fits : (f : Format) (x : Fixed f) (s : List ℕ) (p : ℕ) → size f ≤ left s p → read f s p ≡ got (value_at f (fixed_flat f x) s p) (p + size f)
block_fits f x s p h = (fixed_block f x s p).0 h

pub block_short : (f : Format) → Fixed f → (s : List ℕ) (p : ℕ) → left s p < size f → read f s p ≡ stop (short (widths f) p (left s p))
block_short f x s p h = (fixed_block f x s p).1 h

-- ---- as many bytes are written

pub fixed_length : WritesAsMany
unfolding write
fixed_length nothing x v h = refl
fixed_length (num n) x v h = omega (arith, length_le_bytes n v)
fixed_length (raw n) x v h = omega arith
fixed_length (reserved n) x v h = rw length-replicate (omega arith)
fixed_length host x v h = simp length-append (omega arith)
fixed_length flag x v h = refl
fixed_length (text field) x v h = absurd x
fixed_length (counted limit field f) x v h = absurd x
fixed_length indexes x v h = absurd x
fixed_length (whole n f) x v h = omega (arith, h.0)
fixed_length (tagged k) x v h = absurd x
fixed_length (f ▸ g) x v h = rw (length-append, sum_append, fixed_length f x.0 v.0 h.0, fixed_length g x.1 v.1 h.1)

pub length_all : (f : Format) → Fixed f → (vs : List (Value f)) → All (Fit f) vs → length (write_all (write f) vs) ≡ length vs * size f
length_all f x [] g = omega arith
length_all f x (v ∷ vs) g =
    omega (arith, length-append (write f v) (write_all (write f) vs), fixed_length f x v g.0, length_all f x vs g.1, suc-mul (length vs) (size f))

-- ---- values of a fixed size, one after another

pub length_values : (f : Format) (x : Fixed f) (n : ℕ) (s : List ℕ) (p : ℕ) → length (values_at f x n s p) ≡ n
unfolding values_at
length_values f x zero s p = refl
length_values f x (suc n) s p = ap suc (length_values f x n s (p + size f))
