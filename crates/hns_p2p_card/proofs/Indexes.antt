-- The longest index list: a difference of 253 or more takes two bytes more, and 16,662 rising indexes below 65,536 have at most 193 of them.
use Prim.Native.Nat.{ℕ, zero, suc, ◌+◌, ◌-◌, ◌*◌, ◌≤◌}
use mathlib.Core.Path.{◌≡◌, refl}
use mathlib.Core.List.{List, [], ◌∷◌}
use native.Mathlib.Omega.{arith}
use lib.ListN.{length, length-append}
use Rattle.hns_refusals.specs.Limits.{max_index}
use Rattle.hns_encoding.specs.Bytes.{Bytes, none}
use Rattle.hns_encoding.specs.Compact.{compact_bytes}
use Rattle.hns_encoding.specs.Format.{differences, Rising}
use Rattle.hns_encoding.proofs.Numbers.{bytes_append}
use Rattle.hns_p2p_card.proofs.Widths.{narrow, wider, width}

-- each index costs its difference and one of what is left below 65,536
pub spent : (base : ℕ) (v : List ℕ) → base ≤ max_index + 1 → Rising base v → 253 * length (differences base v) + 2 * base ≤ 251 * length v + 2 * (max_index + 1)
spent base [] b h = omega arith
spent base (i ∷ v) b h = rw length-append (omega (arith, h.0, h.1, (width (i - base) (omega (arith, h.1))).paid, spent (i + 1) v (omega (arith, h.1)) h.2))

-- so many differences of 253, and then so many of 0
pub spread : ℕ → ℕ → ℕ → List ℕ
spread base zero zero = []
spread base zero (suc n) = base ∷ spread (base + 1) zero n
spread base (suc w) n = (base + 253) ∷ spread (base + 253 + 1) w n

pub record Spread (base w n : ℕ) (v : List ℕ) : Type 0 where
  pub count : length v ≡ w + n
  pub rising : Rising base v
  pub long : length (differences base v) ≡ 3 * w + n
  pub bytes : Bytes (differences base v)

more : {base w n w' n' i : ℕ} {v : List ℕ} (k m : ℕ) → Spread (i + 1) w n v → base ≤ i → i ≤ max_index → length (compact_bytes (i - base)) ≡ 3 * k + m → k + m ≡ 1 → k + w ≡ w' → m + n ≡ n' → Spread base w' n' (i ∷ v)
more {base} {i = i} k m s a b e one ew en =
    record {
      count = omega (arith, s.count);
      rising = (a, b, s.rising);
      long = rw length-append (omega (arith, s.long));
      bytes = bytes_append (width (i - base) (omega arith)).bytes s.bytes;
    }

pub spread_is : (base w n : ℕ) → base + 254 * w + n ≤ max_index + 1 → Spread base w n (spread base w n)
unfolding spread
spread_is base zero zero h = record { count = refl; rising = tt; long = refl; bytes = none }
spread_is base zero (suc n) h =
    let d : base - base ≡ 0 = omega arith in
    more 0 1 (spread_is (base + 1) zero n (omega arith)) (omega arith) (omega arith) (rw d (narrow 0 (omega arith))) refl refl (omega arith)
spread_is base (suc w) n h =
    let d : base + 253 - base ≡ 253 = omega arith in
    more 1 0 (spread_is (base + 253 + 1) w n (omega arith)) (omega arith) (omega arith) (rw d (wider 253 (omega arith) (omega arith))) refl (omega arith) (omega arith)
