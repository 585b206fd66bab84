-- Laws of puts: a run of them is one put of the bytes one after the other, and what was put reads back. Assumes nothing.
use Prim.Native.Nat.{ℕ, zero, suc, ◌+◌, ◌-◌, ◌/◌, ◌%◌, ◌^◌, ◌≤◌, ◌<◌, min}
use mathlib.Core.Path.{◌≡◌, refl, sym, ap, ◌∙◌}
use mathlib.Core.List.{List, [], ◌∷◌, ◌++◌, append_assoc, append-nil}
use mathlib.Core.Logic.{⊎_elim}
use native.Mathlib.Omega.{arith}
use native.Mathlib.Nat.{add-zero, min-eq_left, pow-suc, div-div-eq-div-mul}
use lib.ListN.{length, take, drop, set, length-append, take-append-drop, drop_of_length-le}
use lib.Seq.{sets, sets-eq, length-sets, set_out, take_all, length-take-le, take-length, paste, paste-zero, drop-drop}
use borrow.Rule.Slice.PartMut.{put_mid}
use Rattle.std.specs.Int.{byte_at, bytes_low_first}
use Rattle.hns_encoding.specs.Bytes.{le_bytes, Outcome, got}
use Rattle.hns_encoding.specs.Put.{splice, advance, Put}
use Rattle.hns_encoding.specs.Laws.{Reads}
use Rattle.hns_encoding.proofs.Numbers.{lt_or_ge, le_bytes_add, le_bytes_mod}

-- ---- a splice is a run of stores

sets_append : (o : List ℕ) (p : ℕ) (x y : List ℕ) → sets o p (x ++ y) ≡ sets (sets o p x) (p + length x) y
sets_append o p [] y = rw add-zero
sets_append o p (b ∷ x) y =
    sets_append (set o p b) (suc p) x y ∙ ap (λ (k : ℕ). sets (sets (set o p b) (suc p) x) k y) (omega arith)

sets_past : (o : List ℕ) (p : ℕ) (x : List ℕ) → length o ≤ p → sets o p x ≡ o
sets_past o p [] h = refl
sets_past o p (b ∷ x) h = ap (λ (l : List ℕ). sets l (suc p) x) (set_out o p b h) ∙ sets_past o (suc p) x (omega arith)

pub splice_past : (o : List ℕ) (p : ℕ) (x : List ℕ) → length o ≤ p → splice o p x ≡ o
unfolding splice
splice_past o p x h =
    let room : length o - p ≡ 0 = omega arith in
    rw (room, take_all p o h, drop_of_length-le o {i = p + length x} (omega arith), append-nil)

-- where the bytes fit, it is what was before, the bytes, and what was after
pub splice_fits : (o : List ℕ) (p : ℕ) (x : List ℕ) → length x ≤ length o - p → splice o p x ≡ take p o ++ (x ++ drop (p + length x) o)
unfolding splice
splice_fits o p x h = rw (take_all (length o - p) x h)

-- where they do not, as many are put as fit
splice_cut : (o : List ℕ) (p : ℕ) (x : List ℕ) → length o - p < length x → splice o p x ≡ take p o ++ take (length o - p) x
unfolding splice
splice_cut o p x h = let none_left : drop (p + length x) o ≡ [] = drop_of_length-le o {i = p + length x} (omega arith) in rw (none_left, append-nil)

splice_sets : (o : List ℕ) (p : ℕ) (x : List ℕ) → splice o p x ≡ sets o p x
splice_sets o p x = ⊎_elim (λ h. ⊎_elim (long h) (fits h) (lt_or_ge (length o - p) (length x))) past (lt_or_ge p (length o))
  where
    past : length o ≤ p → splice o p x ≡ sets o p x
    past h = splice_past o p x h ∙ sym (sets_past o p x h)

    fits : p < length o → length x ≤ length o - p → splice o p x ≡ sets o p x
    fits h k = splice_fits o p x k ∙ sym (append_assoc (take p o) x (drop (p + length x) o)) ∙ sym (sets-eq x o p (omega arith))

    long : p < length o → length o - p < length x → splice o p x ≡ sets o p x
    long h k =
        let y = take (length o - p) x in
        let cut : length (take (length o - p) x) ≡ length o - p = length-take-le (length o - p) x (omega arith) in
        let none_left : drop (p + length (take (length o - p) x)) o ≡ [] = drop_of_length-le o {i = p + length (take (length o - p) x)} (omega arith) in
        splice_cut o p x k
        ∙ sym (sets-eq y o p (omega arith) ∙ rw (none_left, append-nil))
        ∙ sym (sets_past (sets o p y) (p + length y) (drop (length o - p) x) (rw length-sets (omega arith)))
        ∙ sym (sets_append o p y (drop (length o - p) x))
        ∙ ap (sets o p) (take-append-drop (length o - p) x)

pub length_splice : (o : List ℕ) (p : ℕ) (x : List ℕ) → length (splice o p x) ≡ length o
length_splice o p x = rw splice_sets (length-sets o p x)

pub splice_byte : (o : List ℕ) (p b : ℕ) → splice o p (b ∷ []) ≡ set o p b
splice_byte o p b = splice_sets o p (b ∷ [])

pub splice_none : (o : List ℕ) (p : ℕ) → splice o p [] ≡ o
splice_none o p = splice_sets o p []

-- x and then y from where x ended
pub splice_append : (o : List ℕ) (p : ℕ) (x y : List ℕ) → splice o p (x ++ y) ≡ splice (splice o p x) (p + length x) y
splice_append o p x y = simp splice_sets (sets_append o p x y)

pub splice_cons : (o : List ℕ) (p x : ℕ) (xs : List ℕ) → splice o p (x ∷ xs) ≡ splice (set o p x) (p + 1) xs
splice_cons o p x xs = splice_append o p (x ∷ []) xs ∙ ap (λ (l : List ℕ). splice l (p + 1) xs) (splice_byte o p x)

-- a copy of as many bytes as fit
pub splice_paste : (o : List ℕ) (p : ℕ) (x : List ℕ) → paste o p x (min (length x) (length o - p)) ≡ splice o p x
splice_paste o p x = ⊎_elim long fits (lt_or_ge (length o - p) (length x))
  where
    fits : length x ≤ length o - p → paste o p x (min (length x) (length o - p)) ≡ splice o p x
    fits k = rw (min-eq_left k, take-length) (append_assoc (take p o) x (drop (p + length x) o) ∙ sym (splice_fits o p x k))

    long : length o - p < length x → paste o p x (min (length x) (length o - p)) ≡ splice o p x
    long k =
        let n : min (length x) (length o - p) ≡ length o - p = omega arith in
        let none_left : drop (p + (length o - p)) o ≡ [] = drop_of_length-le o {i = p + (length o - p)} (omega arith) in
        rw (n, none_left, append-nil) (sym (splice_cut o p x k))

pub pasted : (o : List ℕ) (p : ℕ) (x : List ℕ) (n : ℕ) {o' : List ℕ} → n ≡ min (length x) (length o - p) → o' ≡ paste o p x n → o' ≡ splice o p x
pasted o p x n e s = s ∙ rw e (splice_paste o p x)

-- a cursor at 2^64 - 1 stores nothing, as one further on would not
splice_cap : (o : List ℕ) (p n : ℕ) (y : List ℕ) → length o < 2 ^ 64 → splice o (advance p n) y ≡ splice o (p + n) y
unfolding advance
splice_cap o p n y h = ⊎_elim (λ k. let same : min (p + n) 18446744073709551615 ≡ p + n = omega arith in rw same) past (lt_or_ge (p + n) 18446744073709551615)
  where
    past : 18446744073709551615 ≤ p + n → splice o (advance p n) y ≡ splice o (p + n) y
    past k = splice_past o (min (p + n) 18446744073709551615) y (omega arith) ∙ sym (splice_past o (p + n) y (omega arith))

-- ---- puts

-- one put and then another are a put of both
pub then : {o : List ℕ} {p : ℕ} {x : List ℕ} {o₁ : List ℕ} {p₁ : ℕ} {y : List ℕ} {o₂ : List ℕ} {p₂ : ℕ} → length o < 2 ^ 64 → Put o p x o₁ p₁ → Put o₁ p₁ y o₂ p₂ → Put o p (x ++ y) o₂ p₂
unfolding advance
then {o} {p} {x} {o₁} {p₁} {y} {o₂} {p₂} h a b =
    record {
      next = rw length-append (omega (arith, a.next, b.next));
      bytes =
          b.bytes
          ∙ ap (λ (l : List ℕ). splice l p₁ y) a.bytes
          ∙ ap (λ (k : ℕ). splice (splice o p x) k y) a.next
          ∙ splice_cap (splice o p x) p (length x) y (rw length_splice h)
          ∙ sym (splice_append o p x y);
    }

-- a put leaves the length
pub put_length : {o : List ℕ} {p : ℕ} {x : List ℕ} {o₁ : List ℕ} {p₁ : ℕ} → Put o p x o₁ p₁ → length o₁ ≡ length o
put_length {o} {p} {x} a = ap length a.bytes ∙ length_splice o p x

-- as many bytes as fit were stored: `at` is where, and k how many
pub put_stored : {o : List ℕ} {p : ℕ} {x : List ℕ} {at n k : ℕ} {y : List ℕ} {p' : ℕ} → at ≡ min p (length o) → n ≡ min (length x) (length o - at) → k ≡ n → y ≡ take n x → p' ≡ min (p + length x) (2 ^ 64 - 1) → Put o p x (put_mid at k o y) p'
unfolding advance
put_stored {o} {p} {x} {at} {n} {k} {y} f g e same after =
    record {
      next = after;
      bytes = put ∙ ⊎_elim inside past (lt_or_ge p (length o));
    }
  where
    put : put_mid at k o y ≡ paste o at x n
    put = rw (same, e, drop-drop) (sym (append_assoc (take at o) (take n x) (drop (at + n) o)))

    inside : p < length o → paste o at x n ≡ splice o p x
    inside h = let here : at ≡ p = omega arith in pasted o p x n (omega arith) (rw here)

    past : length o ≤ p → paste o at x n ≡ splice o p x
    past h =
        let none : n ≡ 0 = omega arith in
        rw none (sym (paste-zero o at x)) ∙ sym (splice_past o p x h)

-- all of them did
pub put_whole : {o : List ℕ} {p : ℕ} {x : List ℕ} {at k : ℕ} {y : List ℕ} {p' : ℕ} → at ≡ min p (length o) → length x ≤ length o - at → k ≡ length x → y ≡ x → p' ≡ p + length x → p' < 2 ^ 64 → Put o p x (put_mid at k o y) p'
put_whole {o} {p} {x} f h e same after small = put_stored f (omega arith) e (same ∙ sym (take_all (length x) x (omega arith))) (omega arith)

-- bytes to the front of as many
pub front_all : (o x : List ℕ) → length o ≡ length x → {o' : List ℕ} → o' ≡ splice o 0 x → o' ≡ x
front_all o x long e =
    let start : 0 + length x ≡ length x = omega arith in
    let none : drop (length x) o ≡ [] = drop_of_length-le o {i = length x} (omega arith) in
    e ∙ splice_fits o 0 x (omega arith) ∙ rw (start, none, append-nil)

-- a byte is stored if there is room for it
pub byte_fits : (o : List ℕ) (p b : ℕ) {p' : ℕ} → p' ≡ min (p + 1) (2 ^ 64 - 1) → Put o p (b ∷ []) (set o p b) p'
unfolding advance
byte_fits o p b e = record { next = e; bytes = sym (splice_byte o p b) }

pub byte_past : (o : List ℕ) (p b : ℕ) → length o ≤ p → {p' : ℕ} → p' ≡ min (p + 1) (2 ^ 64 - 1) → Put o p (b ∷ []) o p'
unfolding advance
byte_past o p b h e = record { next = e; bytes = sym (splice_past o p (b ∷ []) h) }

-- nothing is put: the start of a loop
pub put_none : (o : List ℕ) (p : ℕ) → p < 2 ^ 64 → Put o p [] o p
unfolding advance
put_none o p h = record { next = omega arith; bytes = sym (splice_fits o p [] (omega arith) ∙ rw add-zero (take-append-drop p o)) }

-- a run of puts on an output whose length is a usize, as one put of their bytes
abbrev pub Run : List ℕ → ℕ → List ℕ → List ℕ → ℕ → Type 0
Run o p x o' p' = length o < 2 ^ 64 → Put o p x o' p'

infixr 60 ◌⨟◌
pub ◌⨟◌ : {o : List ℕ} {p : ℕ} {x : List ℕ} {o₁ : List ℕ} {p₁ : ℕ} {y : List ℕ} {o₂ : List ℕ} {p₂ : ℕ} → Put o p x o₁ p₁ → Run o₁ p₁ y o₂ p₂ → Run o p (x ++ y) o₂ p₂
◌⨟◌ a run h = then h a (run (rw (put_length a) h))

-- a put by a cursor that is known to stand at 0
pub from_start : {o : List ℕ} {p : ℕ} {x : List ℕ} {o₁ : List ℕ} {p₁ : ℕ} → p ≡ 0 → Put o p x o₁ p₁ → Put o 0 x o₁ p₁
from_start e a = rw e at a

-- where a put that fits ends
pub put_end : {o : List ℕ} {p : ℕ} {x : List ℕ} {o' : List ℕ} {p' : ℕ} → length o < 2 ^ 64 → p + length x ≤ length o → Put o p x o' p' → p' ≡ p + length x
unfolding advance
put_end h k a = omega (arith, a.next)

-- bytes as many as the output has are all of it
pub put_all : {o : List ℕ} {p : ℕ} {x : List ℕ} {o' : List ℕ} {p' : ℕ} → p ≡ 0 → length x ≡ length o → Put o p x o' p' → o' ≡ x
put_all {o} {p} {x} e h put =
    let none_left : drop (0 + length x) o ≡ [] = drop_of_length-le o {i = 0 + length x} (omega arith) in
    put.bytes ∙ rw e (splice_fits o 0 x (omega arith) ∙ rw (none_left, append-nil))

pub put_byte : {b : ℕ} {o : List ℕ} {p : ℕ} {o₁ : List ℕ} {p₁ : ℕ} → b < 256 → Put o p (b ∷ []) o₁ p₁ → Put o p (le_bytes 1 b) o₁ p₁
unfolding le_bytes
put_byte {b} h a = let same : b % 256 ≡ b = omega arith in rw same a

-- the library's bytes of a number are its lowest bytes
low_first : (i n v : ℕ) → bytes_low_first i n v ≡ le_bytes n (v / 256 ^ i)
unfolding le_bytes
low_first i zero v = refl
low_first i (suc n) v =
    let rest : v / 256 ^ suc i ≡ v / 256 ^ i / 256 = ap (λ (k : ℕ). v / k) (pow-suc 256 i) ∙ sym (div-div-eq-div-mul v (256 ^ i) 256) in
    rw (low_first (suc i) n v, rest, lowest i)
  where
    lowest : (j : ℕ) → byte_at j v ≡ v / 256 ^ j % 256
    lowest zero = omega arith
    lowest (suc j) = refl

pub put_number : (n v : ℕ) {x o : List ℕ} {p : ℕ} {o' : List ℕ} {p' : ℕ} → x ≡ bytes_low_first 0 n v → Put o p x o' p' → Put o p (le_bytes n v) o' p'
put_number n v e a = let all : v / 256 ^ 0 ≡ v = omega arith in rw (e, low_first 0 n v, all) at a

-- a number in two halves of k bytes
pub put_halves : (k v : ℕ) {o : List ℕ} {p : ℕ} {o₁ : List ℕ} {p₁ : ℕ} {o₂ : List ℕ} {p₂ : ℕ} → length o < 2 ^ 64
    → Put o p (le_bytes k (v % 256 ^ k)) o₁ p₁ → Put o₁ p₁ (le_bytes k (v / 256 ^ k)) o₂ p₂ → Put o p (le_bytes (k + k) v) o₂ p₂
put_halves k v h a b = rw (le_bytes_add, ← le_bytes_mod k v) (then h a b)

-- ---- what was put reads back

-- bytes that fit, of which `item` reads a value wherever they stand, read as it from where they were put, up to the next place
pub put_reads : {A : Type 0} (item : List ℕ → ℕ → Outcome A) (z : List ℕ) {a : A} → Reads item z a
    → {o : List ℕ} {p : ℕ} {o' : List ℕ} {p' : ℕ} → length o < 2 ^ 64 → p + length z ≤ length o → Put o p z o' p' → item o' p ≡ got a p'
put_reads item z reads {o} {p} h k put =
    let front : length (take p o) ≡ p = length-take-le p o (omega arith) in
    let there = rw front at (reads (take p o) (drop (p + length z) o)) in
    rw (put.bytes, splice_fits o p z (omega arith), put_end h k put) there
