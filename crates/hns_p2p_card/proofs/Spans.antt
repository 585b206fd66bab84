-- How long the values of a format are written, for each way that formats are made.
use Prim.Native.Nat.{ℕ, zero, suc, ◌+◌, ◌*◌, ◌≤◌, ◌<◌}
use mathlib.Core.Path.{◌≡◌, ap, ◌∙◌}
use mathlib.Core.List.{List}
use native.Mathlib.Omega.{arith}
use native.Mathlib.Nat.{mul-le-mul_right}
use lib.ListN.{length, replicate, length-append, length-replicate}
use Rattle.hns_refusals.specs.Limits.{max_indexes, max_index, max_text}
use Rattle.hns_encoding.specs.Bytes.{Bytes, none, byte}
use Rattle.hns_encoding.specs.Compact.{compact_bytes}
use Rattle.hns_encoding.specs.Format.{Format, text, counted, indexes, tagged, ◌▸◌, Value, read, write, write_all, All, Fit, size, Fixed, fixed_flat, value_at}
use Rattle.hns_encoding.specs.Marks.{marks}
use Rattle.hns_encoding.proofs.Numbers.{bytes_append, bytes_zeros}
use Rattle.hns_encoding.proofs.Outcomes.{to_end_fits}
use Rattle.hns_encoding.proofs.Forward.{forward}
use Rattle.hns_encoding.proofs.Rewritten.{rewritten}
use Rattle.hns_encoding.proofs.Blocks.{block_fits, fixed_length, length_all}
use Rattle.hns_p2p_card.proofs.Widths.{bytes_marked, narrow, wider, width}
use Rattle.hns_p2p_card.proofs.Indexes.{spent, spread, spread_is}

-- a value that is written in n bytes
pub record Writes (f : Format) (n : ℕ) : Type 0 where
  pub value : Value f
  pub fit : Fit f value
  pub bytes : Bytes (write f value)
  pub long : length (write f value) ≡ n

abbrev pub Within : Format → ℕ → ℕ → Type 0
Within f low high = (v : Value f) → Fit f v → (low ≤ length (write f v)) × (length (write f v) ≤ high)

pub record Spans (f : Format) (low high : ℕ) : Type 0 where
  pub within : Within f low high
  pub shortest : Writes f low
  pub longest : Writes f high

-- ---- of fixed size

-- zeros read as a record of fixed size, and what was read is written in as many bytes
zeros_written : (f : Format) → Fixed f → Writes f (size f)
zeros_written f x =
    let n = size f in
    let s : List ℕ = replicate (size f) 0 in
    let v : Value f = value_at f (fixed_flat f x) s 0 in
    let all = length-replicate {A = ℕ} (size f) 0 in
    let here = block_fits f x s 0 (omega arith) in
    let r = rewritten f s (bytes_zeros n) v (0 + size f) (to_end_fits (read f) s here (omega arith)) in
    record {
      value = v;
      fit = (forward f s (bytes_zeros n) 0 (omega arith) v (0 + size f) here).fit;
      bytes = rw r.zeroed (bytes_marked (marks f s 0) (bytes_zeros n));
      long = r.as_long ∙ all;
    }

pub fixed : (f : Format) → Fixed f → Spans f (size f) (size f)
fixed f x =
    record {
      within = λ v h. let e = fixed_length f x v h in (omega arith, omega arith);
      shortest = zeros_written f x;
      longest = zeros_written f x;
    }

-- ---- texts

pub text_spans : (field : ℕ) → Spans (text field) 1 256
unfolding write
text_spans field = record { within = λ v h. (omega arith, omega (arith, h.0)); shortest = of_zeros 0 (omega arith); longest = of_zeros max_text (omega arith) }
  where
    low : (n : ℕ) → All (λ b. b < 128) (replicate n 0)
    low zero = tt
    low (suc n) = (omega arith, low n)

    of_zeros : (n : ℕ) → n ≤ max_text → Writes (text field) (suc n)
    of_zeros n h =
        let e = length-replicate {A = ℕ} n 0 in
        record { value = replicate n 0; fit = (omega arith, low n); bytes = byte {b = length (replicate {A = ℕ} n 0)} (omega arith) (bytes_zeros n); long = ap suc e }

-- ---- counted items of fixed size

module _ (f : Format) (x : Fixed f) where
  abbrev items : ℕ → List (Value f)
  items m = replicate m (zeros_written f x).value

  items_fit : (m : ℕ) → All (Fit f) (items m)
  items_fit zero = tt
  items_fit (suc m) = ((zeros_written f x).fit, items_fit m)

  items_bytes : (m : ℕ) → Bytes (write_all (write f) (items m))
  items_bytes zero = none
  items_bytes (suc m) = bytes_append (zeros_written f x).bytes (items_bytes m)

  counted_written : (limit field m : ℕ) → m ≤ limit → m < 65536 → {n : ℕ} → length (compact_bytes m) + m * size f ≡ n → Writes (counted limit field f) n
  unfolding write
  counted_written limit field m h k e =
      let many = length-replicate m (zeros_written f x).value in
      record {
        value = items m;
        fit = (omega arith, omega arith, items_fit m);
        bytes = rw many (bytes_append (width m k).bytes (items_bytes m));
        long = rw (length-append, many, length_all f x (items m) (items_fit m), many) e;
      }

  -- of a limit that takes three bytes
  pub counted_spans : {limit field : ℕ} → 253 ≤ limit → limit < 65536 → Spans (counted limit field f) 1 (3 + limit * size f)
  unfolding write
  counted_spans {limit} {field} h k =
      record {
        within = λ v fit.
            let c = width (length v) (omega (arith, fit.0)) in
            rw length-append (omega arith, omega (arith, length_all f x v fit.2, mul-le-mul_right (size f) fit.0));
        shortest = counted_written limit field 0 (omega arith) (omega arith) (omega (arith, narrow 0 (omega arith)));
        longest = counted_written limit field limit (omega arith) k (rw (wider limit h k));
      }

-- ---- index lists

index_list : (w n : ℕ) → 254 * w + n ≤ max_index + 1 → w + n ≤ max_indexes → {m : ℕ} → length (compact_bytes (w + n)) + (3 * w + n) ≡ m → Writes indexes m
unfolding write
index_list w n h k e =
    let s = spread_is 0 w n (omega arith) in
    record {
      value = spread 0 w n;
      fit = (omega (arith, s.count), s.rising);
      bytes = rw s.count (bytes_append (width (w + n) (omega arith)).bytes s.bytes);
      long = rw (length-append, s.count, s.long) e;
    }

pub indexes_spans : Spans indexes 1 17051
unfolding write
indexes_spans =
    record {
      within = λ v h. let c = width (length v) (omega (arith, h.0)) in rw length-append (omega arith, omega (arith, h.0, spent 0 v (omega arith) h.1));
      shortest = index_list 0 0 (omega arith) (omega arith) (omega (arith, narrow 0 (omega arith)));
      longest = index_list 193 16469 (omega arith) (omega arith) (omega (arith, wider max_indexes (omega arith) (omega arith)));
    }

-- ---- by a tag, and one after another

tag_written : {k : ℕ → Format} {n : ℕ} (t : ℕ) → t < 256 → Writes (k t) n → Writes (tagged k) (1 + n)
unfolding write
tag_written t h w = record { value = (t, w.value); fit = (h, w.fit); bytes = byte {b = t} h w.bytes; long = omega (arith, w.long) }

-- one tag has the shortest, another the longest
pub tagged_spans : {k : ℕ → Format} {low high : ℕ} → ((t : ℕ) → Within (k t) low high) → (t u : ℕ) → t < 256 → u < 256 → Writes (k t) low → Writes (k u) high → Spans (tagged k) (1 + low) (1 + high)
unfolding write
tagged_spans each t u a b w x =
    record {
      within = λ v h. let e = each v.0 v.1 h.1 in (omega (arith, e.0), omega (arith, e.1));
      shortest = tag_written t a w;
      longest = tag_written u b x;
    }

both_written : {f g : Format} {m n : ℕ} → Writes f m → Writes g n → Writes (f ▸ g) (m + n)
unfolding write
both_written a b =
    record { value = (a.value, b.value); fit = (a.fit, b.fit); bytes = bytes_append a.bytes b.bytes; long = rw (length-append, a.long, b.long) }

infixr 50 ◌then◌
pub ◌then◌ : {f g : Format} {a b c d : ℕ} → Spans f a b → Spans g c d → Spans (f ▸ g) (a + c) (b + d)
unfolding write
p then q =
    record {
      within = λ v h. let k = p.within v.0 h.0 in let m = q.within v.1 h.1 in rw length-append (omega (arith, k.0, m.0), omega (arith, k.1, m.1));
      shortest = both_written p.shortest q.shortest;
      longest = both_written p.longest q.longest;
    }
