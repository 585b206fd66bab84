-- A list of records of fixed size reads as one block: all of it where it fits, else the refusal of the field in which the bytes end, in the record that begins last.
use Prim.Native.Nat.{ℕ, zero, suc, ◌+◌, ◌-◌, ◌*◌, ◌/◌, ◌%◌, ◌≤◌, ◌<◌}
use mathlib.Core.Path.{◌≡◌, refl, ap, ◌∙◌}
use mathlib.Core.List.{List, []}
use mathlib.Core.Logic.{⊎_elim}
use native.Mathlib.Omega.{arith}
use native.Mathlib.Nat.{suc-mul, mul-zero, div-add-mod', div-lt_iff_lt-mul, mod-lt}
use lib.ListN.{get_or}
use borrow.Author.Tests.{le-leb, lt-leb}
use Rattle.hns_encoding.specs.Bytes.{Outcome, got, stop, after, left}
use Rattle.hns_encoding.specs.Compact.{count_at}
use Rattle.hns_encoding.specs.Format.{Format, counted, Value, read, many, widths, size, Fixed, fixed_flat, short, value_at, values_at}
use Rattle.hns_encoding.proofs.Numbers.{lt_or_ge}
use Rattle.hns_encoding.proofs.Blocks.{block_fits, block_short}
use Rattle.hns_p2p_lists.specs.Helpers.{records_at, list_at}

-- the k-th of n values stands k sizes on
pub value_stands : (f : Format) (x : Fixed f) (n : ℕ) (s : List ℕ) (p k : ℕ) (d : Value f) → k < n → get_or (values_at f x n s p) k d ≡ value_at f (fixed_flat f x) s (p + k * size f)
unfolding values_at
value_stands f x zero s p k d h = absurd (omega arith)
value_stands f x (suc n) s p zero d h = let place : p + 0 * size f ≡ p = omega arith in rw place
value_stands f x (suc n) s p (suc k) d h =
    let more : suc k * size f ≡ k * size f + size f = suc-mul k (size f) in
    let place : p + size f + k * size f ≡ p + suc k * size f = omega arith in
    value_stands f x n s (p + size f) k d (omega arith) ∙ ap (value_at f (fixed_flat f x) s) place

positive : (n m : ℕ) {a : ℕ} → a < n * m → 0 < m
positive n zero h = absurd (omega (arith, rw (mul-zero n) at h))
positive n (suc m) h = omega arith

module _ (f : Format) (x : Fixed f) (s : List ℕ) where
  -- all of n fit
  pub many_fits : (n p : ℕ) → n * size f ≤ left s p → many n (read f) s p ≡ got (values_at f x n s p) (p + n * size f)
  unfolding values_at
  many_fits zero p h = ap (got []) (omega arith)
  many_fits (suc n) p h =
      let more : suc n * size f ≡ n * size f + size f = suc-mul n (size f) in
      let end : p + size f + n * size f ≡ p + suc n * size f = omega arith in
      rw (block_fits f x s p (omega arith), many_fits n (p + size f) (omega arith), end)

  -- k fit, and the next does not
  pub many_short : (k n p : ℕ) → k < n → k * size f ≤ left s p → left s p < k * size f + size f → many n (read f) s p ≡ stop (short (widths f) (p + k * size f) (left s p - k * size f))
  many_short k zero p h low high = absurd (omega arith)
  many_short zero (suc n) p h low high =
      let place : p + 0 * size f ≡ p = omega arith in
      let all : left s p - 0 * size f ≡ left s p = omega arith in
      rw (block_short f x s p (omega arith), place, all)
  many_short (suc k) (suc n) p h low high =
      let more : suc k * size f ≡ k * size f + size f = suc-mul k (size f) in
      let place : p + size f + k * size f ≡ p + suc k * size f = omega arith in
      let rest : left s (p + size f) - k * size f ≡ left s p - suc k * size f = omega arith in
      rw (block_fits f x s p (omega arith), many_short k n (p + size f) (omega arith) (omega arith) (omega arith), place, rest)

  -- n records, by one multiplication
  pub records : (n p : ℕ) → many n (read f) s p ≡ after (records_at n (widths f) s p) (λ i last. got (values_at f x i.count s i.first) last)
  unfolding records_at
  records n p = ⊎_elim ends fits (lt_or_ge (left s p) (n * size f))
    where
      fits : n * size f ≤ left s p → many n (read f) s p ≡ after (records_at n (widths f) s p) (λ i last. got (values_at f x i.count s i.first) last)
      fits h = rw (le-leb (n * size f) (left s p) h) (many_fits n p h)

      ends : left s p < n * size f → many n (read f) s p ≡ after (records_at n (widths f) s p) (λ i last. got (values_at f x i.count s i.first) last)
      ends h =
          let some : 0 < size f = positive n (size f) h in
          let parts = div-add-mod' (left s p) (size f) in
          let below = mod-lt (left s p) some in
          let rest : left s p - left s p / size f * size f ≡ left s p % size f = omega arith in
          rw (lt-leb (n * size f) (left s p) h)
          (many_short (left s p / size f) n p ((div-lt_iff_lt-mul some).1 h) (omega arith) (omega arith) ∙ ap (λ (k : ℕ). stop (short (widths f) (p + left s p / size f * size f) k)) rest)

  -- a count and as many records
  pub listed : (limit field p : ℕ) → read (counted limit field f) s p ≡ after (list_at limit field (widths f) s p) (λ i last. got (values_at f x i.count s i.first) last)
  unfolding read list_at
  listed limit field p = go (count_at limit field s p)
    where
      go : (o : Outcome ℕ) → after o (λ n next. many n (read f) s next) ≡ after (after o (λ n next. records_at n (widths f) s next)) (λ i last. got (values_at f x i.count s i.first) last)
      go (got n next) = records n next
      go (stop r) = refl
