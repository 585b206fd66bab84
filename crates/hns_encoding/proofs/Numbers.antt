-- Laws of little-endian numbers, over the width, and of parts of lists of bytes. Assumes nothing.
use Prim.Native.Nat.{ℕ, zero, suc, ◌+◌, ◌-◌, ◌*◌, ◌/◌, ◌%◌, ◌^◌, ◌≤◌, ◌<◌}
use mathlib.Core.Path.{◌≡◌, refl, sym, ap, ◌∙◌}
use mathlib.Core.List.{List, [], ◌∷◌, ◌++◌}
use mathlib.Core.Logic.{◌⊎◌, inl, inr}
use native.Mathlib.Omega.{arith}
use native.Mathlib.Nat.{pow-suc, div-div-eq-div-mul, mul_comm, mod-add-div}
use native.Mathlib.Decide.{dec_lt}
use lib.Pow.{pow-add}
use lib.Arith.{digits_lt}
use lib.ListN.{length, take, drop, get_or, replicate, length-drop}
use lib.Seq.{take-add, drop-drop, length-take-le, drop-cons}
use Rattle.hns_encoding.specs.Bytes.{le, le_bytes, Bytes, none, byte, part}

pub lt_or_ge : (m n : ℕ) → (m < n) ⊎ (n ≤ m)
lt_or_ge m n = elim (dec_lt m n) [ yes h ↦ inl h | no h ↦ inr (omega arith) ]

-- ---- the bytes of a number

pub length_le_bytes : (n v : ℕ) → length (le_bytes n v) ≡ n
unfolding le_bytes
length_le_bytes zero v = refl
length_le_bytes (suc n) v = ap suc (length_le_bytes n (v / 256))

pub le_le_bytes : (n v : ℕ) → v < 256 ^ n → le (le_bytes n v) ≡ v
unfolding le le_bytes
le_le_bytes zero v h = omega arith
le_le_bytes (suc n) v h =
    let bound : v < 256 ^ n * 256 = rw pow-suc at h in
    let small : v / 256 < 256 ^ n = omega arith in
    let ih = le_le_bytes n (v / 256) small in
    omega (arith, ih)

quotients : (n v : ℕ) → v / (256 ^ n * 256) ≡ v / 256 / 256 ^ n
quotients n v = rw (mul_comm (256 ^ n) 256) (sym (div-div-eq-div-mul v 256 (256 ^ n)))

-- the lowest m bytes, and then n more
pub le_bytes_add : (m n v : ℕ) → le_bytes (m + n) v ≡ le_bytes m v ++ le_bytes n (v / 256 ^ m)
unfolding le_bytes
le_bytes_add zero n v =
    let all : v / 256 ^ 0 ≡ v = omega arith in
    let same : 0 + n ≡ n = omega arith in
    rw (all, same)
le_bytes_add (suc m) n v =
    let same : suc m + n ≡ suc (m + n) = omega arith in
    rw same (ap (λ (l : List ℕ). v % 256 ∷ l) (le_bytes_add m n (v / 256) ∙ ap (λ (q : ℕ). le_bytes m (v / 256) ++ le_bytes n q) (sym (rw pow-suc (quotients m v)))))

-- only the lowest n bytes count
pub le_bytes_mod : (n v : ℕ) → le_bytes n (v % 256 ^ n) ≡ le_bytes n v
unfolding le_bytes
le_bytes_mod zero v = refl
le_bytes_mod (suc n) v =
    let powers : 256 ^ suc n ≡ 256 ^ n * 256 = pow-suc 256 n in
    let lowest : v % 256 ^ suc n % 256 ≡ v % 256 = rw powers (omega (arith, rw (quotients n v) at (mod-add-div v (256 ^ n * 256)))) in
    let others : v % 256 ^ suc n / 256 ≡ v / 256 % 256 ^ n =
    rw powers (omega (arith, rw (quotients n v) at (mod-add-div v (256 ^ n * 256)), mod-add-div (v / 256) (256 ^ n))) in
    rw (lowest, others, le_bytes_mod n (v / 256))

-- ---- the number of bytes

pub le_append : (x y : List ℕ) → le (x ++ y) ≡ le x + 256 ^ length x * le y
unfolding le
le_append [] y = omega arith
le_append (b ∷ x) y = let ih = le_append x y in rw pow-suc (omega (arith, ih))

pub le_one : (b : ℕ) → le (b ∷ []) ≡ b
unfolding le
le_one b = omega arith

-- ---- bytes stay bytes

pub bytes_drop : (n : ℕ) {s : List ℕ} → Bytes s → Bytes (drop n s)
bytes_drop zero h = h
bytes_drop (suc n) none = none
bytes_drop (suc n) (byte b h) = bytes_drop n h

pub bytes_take : (n : ℕ) {s : List ℕ} → Bytes s → Bytes (take n s)
bytes_take zero h = none
bytes_take (suc n) none = none
bytes_take (suc n) (byte b h) = byte b (bytes_take n h)

pub bytes_append : {xs ys : List ℕ} → Bytes xs → Bytes ys → Bytes (xs ++ ys)
bytes_append none g = g
bytes_append (byte b h) g = byte b (bytes_append h g)

pub bytes_zeros : (n : ℕ) → Bytes (replicate n 0)
bytes_zeros zero = none
bytes_zeros (suc n) = byte {b = 0} (omega arith) (bytes_zeros n)

pub byte_below : (s : List ℕ) → Bytes s → (p : ℕ) → p < length s → get_or s p 0 < 256
byte_below [] bs p h = absurd (omega arith)
byte_below (b ∷ s) (byte k bs) zero h = k
byte_below (b ∷ s) (byte k bs) (suc p) h = byte_below s bs p (omega arith)

-- what the slices of a function are
pub bytes_known : (s : List ℕ) → ((i : ℕ) → get_or s i 0 < 256) → Bytes s
bytes_known [] h = none
bytes_known (b ∷ s) h = byte (h 0) (bytes_known s (λ i. h (suc i)))

-- a number of n bytes is below 256 ^ n, and is written again as those bytes
pub le_below : {s : List ℕ} → Bytes s → le s < 256 ^ length s
unfolding le
le_below none = omega arith
le_below (byte b h) = let ih = le_below h in rw pow-suc (omega arith)

pub le_bytes_le : {s : List ℕ} → Bytes s → le_bytes (length s) (le s) ≡ s
unfolding le le_bytes
le_bytes_le none = refl
le_bytes_le (byte {b} {bs} h r) =
    let m : (b + 256 * le bs) % 256 ≡ b = omega arith in
    let d : (b + 256 * le bs) / 256 ≡ le bs = omega arith in
    rw (m, d, le_bytes_le r)

-- ---- parts

pub part_length : (s : List ℕ) (p n : ℕ) → n ≤ length s - p → length (part s p n) ≡ n
part_length s p n h = length-take-le n (drop p s) (simp length-drop h)

pub part_add : (s : List ℕ) (p m n : ℕ) → part s p (m + n) ≡ part s p m ++ part s (p + m) n
part_add s p m n = rw (take-add, drop-drop)

pub part_below : (s : List ℕ) → Bytes s → (p n : ℕ) → n ≤ length s - p → le (part s p n) < 256 ^ n
part_below s bs p n h = rw (part_length s p n h) at (le_below (bytes_take n (bytes_drop p bs)))

pub part_bytes : (s : List ℕ) → Bytes s → (p n : ℕ) → n ≤ length s - p → le_bytes n (le (part s p n)) ≡ part s p n
part_bytes s bs p n h = rw (part_length s p n h) at (le_bytes_le (bytes_take n (bytes_drop p bs)))

-- a number in two parts
pub le_part_add : (s : List ℕ) (p m n : ℕ) → m ≤ length s - p → le (part s p (m + n)) ≡ le (part s p m) + 256 ^ m * le (part s (p + m) n)
le_part_add s p m n h = rw (part_add, le_append, part_length s p m h)

-- two numbers of k bytes, one after the other, are one of twice as many
pub halves : (k : ℕ) (s : List ℕ) (p : ℕ) {a b : ℕ} → k ≤ length s - p → (a ≡ le (part s p k)) × (a < 256 ^ k) → (b ≡ le (part s (p + k) k)) × (b < 256 ^ k)
    → (a + 256 ^ k * b ≡ le (part s p (k + k))) × (a + 256 ^ k * b < 256 ^ (k + k))
halves k s p h low high =
    (rw (low.0, high.0) (sym (le_part_add s p k k h)), rw (pow-add 256 k k) (omega (arith, digits_lt {c = 256 ^ k} high.1 low.1)))

-- a byte at a place
pub byte_part : (s : List ℕ) (p : ℕ) → p < length s → part s p 1 ≡ get_or s p 0 ∷ []
byte_part s p h = rw (drop-cons s p 0 h)
