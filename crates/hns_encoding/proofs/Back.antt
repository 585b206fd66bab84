-- Reading what a format wrote gives the value back, for every format and every value that it can write.
use Prim.Native.Nat.{ℕ, ◌+◌, ◌-◌, ◌≤◌, ◌<◌, ◌^◌}
use mathlib.Core.Path.{◌≡◌, refl, ap}
use mathlib.Core.List.{List, [], ◌∷◌, ◌++◌, append_assoc, append-nil, map}
use mathlib.Core.Bool.{Bool, true, false}
use native.Mathlib.Omega.{arith}
use native.Mathlib.Nat.{zero-add}
use lib.ListN.{length, replicate, length-append, length-replicate}
use lib.Seq.{drop-append_seam, take_at}
use lib.Dec.{leb, eqb}
use borrow.Author.Tests.{le-leb, lt-ltb}
use Rattle.hns_refusals.specs.Refusals.{index_over, index_count_field, index_field}
use Rattle.hns_encoding.specs.Bytes.{le_bytes, choose, Outcome, got, stop, after, bytes_at, le_at, to_end}
use Rattle.hns_encoding.specs.Compact.{wide_at, compact_from, compact_at, compact_bytes, count_at, bounded_at, varbytes_at, varbytes}
use Rattle.hns_encoding.specs.Format.{nothing, num, raw, reserved, host, flag, text, counted, indexes, whole, tagged, ◌▸◌, read, write, write_all, many, indexes_from, differences, flag_byte, low7, ip_of, All, Rising, Fit}
use Rattle.hns_encoding.specs.Laws.{Reads, Backs, ReadsBack}
use Rattle.hns_encoding.proofs.Numbers.{length_le_bytes, le_le_bytes, le_one}
use Rattle.hns_encoding.proofs.Outcomes.{to_end_fits}
use Rattle.hns_encoding.proofs.Forms.{byte_alone, wide_bytes, wide_from, Form, small, wide, form}

-- ---- readings in order

-- what is read first says what is read next
pub then_back : {A B : Type 0} (item : List ℕ → ℕ → Outcome A) (k : A → List ℕ → ℕ → Outcome B) (z w : List ℕ) {a : A} {b : B} → Reads item z a → Reads (k a) w b
    → Reads (λ s p. after (item s p) (λ c next. k c s next)) (z ++ w) b
then_back item k z w {b = b} one more x y =
    let first = one x (w ++ y) in
    let second = simp (append_assoc, length-append) at (more (x ++ z) y) in
    simp (append_assoc, first, second, length-append) (ap (got b) (omega arith))

-- what is made of a value that was read
pub made_back : {A B : Type 0} (g : A → B) (item : List ℕ → ℕ → Outcome A) (z : List ℕ) {a : A} {b : B} → Reads item z a → g a ≡ b → Reads (λ s p. after (item s p) (λ c next. got (g c) next)) z b
made_back g item z one e x y = rw (one x y, e)

-- all of the bytes
pub to_end_back : {A : Type 0} (item : List ℕ → ℕ → Outcome A) (z : List ℕ) {a : A} → Reads item z a → to_end item z ≡ got a (length z)
to_end_back item z {a} one =
    let all : item z 0 ≡ got a (length z) = rw (append-nil, zero-add) at (one [] []) in
    to_end_fits item z all (omega arith)

-- ---- bytes and numbers

pub bytes_back : (n : ℕ) → Backs (bytes_at n) (λ b. b) (λ b. length b ≡ n)
unfolding bytes_at
bytes_back n b e x y =
    let h : n ≤ length (x ++ (b ++ y)) - length x = simp length-append (omega arith) in
    simp (le-leb _ _ h, drop-append_seam, take_at b y n e, e)

pub num_back : (n : ℕ) → Backs (le_at n) (le_bytes n) (λ v. v < 256 ^ n)
unfolding le_at
num_back n v h x y = rw (bytes_back n (le_bytes n v) (length_le_bytes n v) x y, le_le_bytes n v h)

-- a byte is its own one-byte number
pub byte_back : Backs (le_at 1) (λ b. b ∷ []) (λ b. Unit {0})
unfolding le_at
byte_back b u x y = rw (bytes_back 1 (b ∷ []) refl x y, le_one)

-- ---- compact sizes

wide_back : (n least v : ℕ) → least ≤ v → v < 256 ^ n → Reads (wide_at n least) (le_bytes n v) v
unfolding wide_at
wide_back n least v low high x y = rw (num_back n v high x y, le-leb _ _ low)

pub compact_back : Backs compact_at compact_bytes (λ v. v < 2 ^ 64)
unfolding compact_at compact_from
compact_back v h = by_form (form v h)
  where
    -- a first byte and what is read after it
    from : (b : ℕ) (w : List ℕ) → compact_bytes v ≡ b ∷ w → Reads (compact_from b) w v → Reads compact_at (compact_bytes v) v
    from b w e more = rw e (then_back (le_at 1) compact_from (b ∷ []) w (byte_back b tt) more)

    by_form : Form v → Reads compact_at (compact_bytes v) v
    by_form (small a) = from v [] (byte_alone v a) (λ x y. simp (lt-ltb _ _ a) (ap (got v) (omega arith)))
    by_form (wide {b} {n} {least} w low high) = from b (le_bytes n v) (wide_bytes w v low high) (λ x y. rw (wide_from w) (wide_back n least v low high x y))

pub count_back : (limit field : ℕ) → Backs (count_at limit field) compact_bytes (λ n. (n ≤ limit) × (n < 2 ^ 64))
unfolding count_at
count_back limit field n h x y = rw (compact_back n h.1 x y, le-leb _ _ h.0)

-- a count and what is read of as many, whatever that is
pub counts_back : {A : Type 0} (limit field : ℕ) (item : ℕ → List ℕ → ℕ → Outcome (List A)) (put : List A → List ℕ) (v : List A) → length v ≤ limit → length v < 2 ^ 64 → Reads (item (length v)) (put v) v
    → Reads (λ s p. after (count_at limit field s p) (λ n next. item n s next)) (compact_bytes (length v) ++ put v) v
counts_back limit field item put v a b more = then_back (count_at limit field) item (compact_bytes (length v)) (put v) (count_back limit field (length v) (a, b)) more

pub varbytes_back : (limit : ℕ) → Backs (varbytes_at limit) varbytes (λ x. (length x ≤ limit) × (length x < 2 ^ 64))
unfolding varbytes_at varbytes bounded_at
varbytes_back limit v h = counts_back limit 0 (λ n s p. bounded_at n limit s p) (λ l. l) v h.0 h.1 (λ x y. rw (le-leb _ _ h.0) (bytes_back (length v) v refl x y))

-- ---- the formats, each over any items

low7_back : (v : List ℕ) → All (λ b. b < 128) v → map low7 v ≡ v
low7_back [] h = refl
low7_back (b ∷ bs) h = let e : low7 b ≡ b = omega (arith, h.0) in rw (e, low7_back bs h.1)

flag_back : (v : Bool) → eqb (flag_byte v) 1 ≡ v
flag_back true = refl
flag_back false = refl

pub many_back : {A : Type 0} (item : List ℕ → ℕ → Outcome A) (put : A → List ℕ) (Ok : A → Type 0) → Backs item put Ok → (v : List A) → All Ok v → Reads (many (length v) item) (write_all put v) v
many_back item put Ok each [] h = λ x y. ap (got []) (omega arith)
many_back item put Ok each (a ∷ v) h =
    then_back item (λ c s p. after (many (length v) item s p) (λ l last. got (c ∷ l) last)) (put a) (write_all put v) (each a h.0)
    (made_back (λ l. a ∷ l) (many (length v) item) (write_all put v) (many_back item put Ok each v h.1) refl)

differences_back : (base : ℕ) (v : List ℕ) → Rising base v → Reads (indexes_from (length v) base) (differences base v) v
differences_back base [] h = λ x y. ap (got []) (omega arith)
differences_back base (i ∷ v) h =
    let sum : base + (i - base) ≡ i = omega (arith, h.0) in
    let rest : Reads (λ s p. after (indexes_from (length v) (i + 1) s p) (λ is last. got (i ∷ is) last)) (differences (i + 1) v) (i ∷ v) =
    made_back (λ is. i ∷ is) (indexes_from (length v) (i + 1)) (differences (i + 1) v) (differences_back (i + 1) v h.2) refl in
    then_back (count_at 65535 index_field) (λ d s p. choose (leb (base + d) 65535) (after (indexes_from (length v) (base + d + 1) s p) (λ is last. got ((base + d) ∷ is) last)) (stop index_over))
    (compact_bytes (i - base)) (differences (i + 1) v) (count_back 65535 index_field (i - base) (omega (arith, h.1), omega (arith, h.1))) (λ x y. simp (sum, le-leb _ _ h.1) (rest x y))

whole_back : {A : Type 0} (n : ℕ) (item : List ℕ → ℕ → Outcome A) (put : A → List ℕ) (Ok : A → Type 0) → Backs item put Ok
    → Backs (λ s p. after (bytes_at n s p) (λ bs next. after (to_end item bs) (λ v last. got v next))) put (λ v. (length (put v) ≡ n) × Ok v)
whole_back n item put Ok each v h x y = rw (bytes_back n (put v) h.0 x y, to_end_back item (put v) (each v h.1))

tagged_back : {A : ℕ → Type 0} (item : (t : ℕ) → List ℕ → ℕ → Outcome (A t)) (put : (t : ℕ) → A t → List ℕ) (Ok : (t : ℕ) → A t → Type 0) → ((t : ℕ) → Backs (item t) (put t) (Ok t))
    → Backs {A = (t : ℕ) × A t} (λ s p. after (le_at 1 s p) (λ t next. after (item t s next) (λ v last. got (t, v) last))) (λ v. v.0 ∷ put v.0 v.1) (λ v. (v.0 < 256) × Ok v.0 v.1)
tagged_back item put Ok each v h =
    then_back (le_at 1) (λ t s p. after (item t s p) (λ u last. got (t, u) last)) (v.0 ∷ []) (put v.0 v.1) (byte_back v.0 tt)
    (made_back (λ u. (v.0, u)) (item v.0) (put v.0 v.1) (each v.0 v.1 h.1) refl)

pair_back : {A B : Type 0} (item_a : List ℕ → ℕ → Outcome A) (put_a : A → List ℕ) (OkA : A → Type 0) → Backs item_a put_a OkA
    → (item_b : List ℕ → ℕ → Outcome B) (put_b : B → List ℕ) (OkB : B → Type 0) → Backs item_b put_b OkB
    → Backs {A = A × B} (λ s p. after (item_a s p) (λ a next. after (item_b s next) (λ b last. got (a, b) last))) (λ v. put_a v.0 ++ put_b v.1) (λ v. OkA v.0 × OkB v.1)
pair_back item_a put_a OkA each_a item_b put_b OkB each_b v h =
    then_back item_a (λ a s p. after (item_b s p) (λ b last. got (a, b) last)) (put_a v.0) (put_b v.1) (each_a v.0 h.0)
    (made_back (λ b. (v.0, b)) item_b (put_b v.1) (each_b v.1 h.1) refl)

text_back : (field : ℕ) → Backs (read (text field)) (write (text field)) (Fit (text field))
unfolding read write
text_back field v h =
    then_back (le_at 1) (λ n s p. after (bytes_at n s p) (λ bs last. got (map low7 bs) last)) (length v ∷ []) v (byte_back (length v) tt)
    (made_back (map low7) (bytes_at (length v)) v (bytes_back (length v) v refl) (low7_back v h.1))

-- a host of kind 0 whose last 20 bytes are z
host_with : (z v : List ℕ) → length z ≡ 20 → length v ≡ 16 → Reads (read host) (0 ∷ (v ++ z)) v
unfolding read
host_with z v hz h =
    let size : length (v ++ z) ≡ 36 = simp length-append (omega arith) in
    then_back (le_at 1) (λ kind s p. after (bytes_at 36 s p) (λ bs last. got (ip_of kind bs) last)) (0 ∷ []) (v ++ z) (byte_back 0 tt)
    (made_back (ip_of 0) (bytes_at 36) (v ++ z) (bytes_back 36 (v ++ z) size) (take_at v z 16 h))

-- Reading what a format wrote gives the value back.
pub back : ReadsBack
unfolding read write
back nothing = λ v h x y. ap (got tt) (omega arith)
back (num n) = num_back n
back (raw n) = bytes_back n
back (reserved n) = λ v h. made_back (λ bs. tt) (bytes_at n) (replicate n 0) (bytes_back n (replicate n 0) (length-replicate n 0)) refl
back host = λ v h. host_with (replicate 20 0) v refl h
back flag = λ v h. made_back (λ b. eqb b 1) (le_at 1) (flag_byte v ∷ []) (byte_back (flag_byte v) tt) (flag_back v)
back (text field) = text_back field
back (counted limit field f) = λ v h. counts_back limit field (λ n. many n (read f)) (write_all (write f)) v h.0 h.1 (many_back (read f) (write f) (Fit f) (back f) v h.2)
back indexes = λ v h. counts_back 16662 index_count_field (λ n. indexes_from n 0) (differences 0) v h.0 (omega (arith, h.0)) (differences_back 0 v h.1)
back (whole n f) = whole_back n (read f) (write f) (Fit f) (back f)
back (tagged k) = tagged_back (λ t. read (k t)) (λ t. write (k t)) (λ t. Fit (k t)) (λ t. back (k t))
back (f ▸ g) = pair_back (read f) (write f) (Fit f) (back f) (read g) (write g) (Fit g) (back g)
