-- What a format reads it can write, and the bytes that it writes are those that it read, each as its mark says.
use Prim.Native.Nat.{ℕ, zero, suc, ◌+◌, ◌-◌, ◌≤◌, ◌<◌, ◌^◌}
use mathlib.Core.Path.{◌≡◌, refl, sym, ap, ◌∙◌, subst₂}
use mathlib.Core.List.{List, [], ◌∷◌, ◌++◌, map, map-id}
use mathlib.Core.Bool.{Bool, true, false}
use native.Mathlib.Omega.{arith}
use native.Mathlib.Numerals.{add-one}
use lib.ListN.{length, take, drop, get_or, replicate, length-append, length-replicate, length-drop, length-map, replicate-append-replicate}
use lib.Seq.{drop-cons, drop-drop, take-take}
use lib.Dec.{leb, eqb, lit≤}
use borrow.Author.Tests.{leb-true, lt-ltb}
use Rattle.hns_refusals.specs.Refusals.{index_count_field, index_field}
use Rattle.hns_encoding.specs.Bytes.{le, le_bytes, Bytes, choose, Outcome, got, after, part, left, bytes_at, le_at, to_end}
use Rattle.hns_encoding.specs.Compact.{wide_at, compact_from, compact_at, compact_bytes, count_at, bounded_at, varbytes_at, varbytes}
use Rattle.hns_encoding.specs.Format.{nothing, num, raw, reserved, host, flag, text, counted, indexes, whole, tagged, ◌▸◌, read, write, write_all, many, indexes_from, differences, flag_byte, low7, ip_of, All, Rising, Fit}
use Rattle.hns_encoding.specs.Marks.{Mark, keep, clear, low, one, marked, mark_all, extent, count_of, marks_many, host_mark, marks}
use Rattle.hns_encoding.specs.Laws.{Wrote, Forward, WritesAgain}
use Rattle.hns_encoding.proofs.Numbers.{bytes_take, bytes_drop, byte_below, part_length, part_below, part_bytes}
use Rattle.hns_encoding.proofs.Outcomes.{after_got, choose_got, bytes_got, byte_got, to_end_got, count_got}
use Rattle.hns_encoding.proofs.Forms.{byte_alone, wide_bytes, wide_from, wide_below, First, alone, leads, first}

-- ---- marks

pub mark_each : (n : ℕ) (m : Mark) (s : List ℕ) → mark_all (replicate n m) s ≡ map (marked m) (take n s)
mark_each zero m s = refl
mark_each (suc n) m [] = refl
mark_each (suc n) m (b ∷ s) = ap (λ (l : List ℕ). marked m b ∷ l) (mark_each n m s)

pub mark_keep : (n : ℕ) (s : List ℕ) → mark_all (replicate n keep) s ≡ take n s
mark_keep n s = mark_each n keep s ∙ map-id (take n s)

pub mark_clear : (n : ℕ) (s : List ℕ) → n ≤ length s → mark_all (replicate n clear) s ≡ replicate n 0
mark_clear zero s h = refl
mark_clear (suc n) [] h = absurd (omega arith)
mark_clear (suc n) (b ∷ s) h = ap (λ (l : List ℕ). 0 ∷ l) (mark_clear n s (omega arith))

pub mark_append : (ms ns : List Mark) (s : List ℕ) → mark_all (ms ++ ns) s ≡ mark_all ms s ++ mark_all ns (drop (length ms) s)
mark_append [] ns s = refl
mark_append (m ∷ ms) [] [] = refl
mark_append (m ∷ ms) (n ∷ ns) [] = refl
mark_append (m ∷ ms) ns (b ∷ s) = ap (λ (l : List ℕ). marked m b ∷ l) (mark_append ms ns s)

-- marks look no further than they reach
pub mark_take : (ms : List Mark) (n : ℕ) (s : List ℕ) → length ms ≤ n → mark_all ms (take n s) ≡ mark_all ms s
mark_take [] n s h = refl
mark_take (m ∷ ms) zero s h = absurd (omega arith)
mark_take (m ∷ ms) (suc n) [] h = refl
mark_take (m ∷ ms) (suc n) (b ∷ s) h = ap (λ (l : List ℕ). marked m b ∷ l) (mark_take ms n s (omega arith))

pub length_mark : (ms : List Mark) (s : List ℕ) → length ms ≤ length s → length (mark_all ms s) ≡ length ms
length_mark [] s h = refl
length_mark (m ∷ ms) [] h = absurd (omega arith)
length_mark (m ∷ ms) (b ∷ s) h = ap suc (length_mark ms s (omega arith))

-- ---- how readings join

-- the same reading, of the value and the place that it is known by
pub told : {A : Type 0} {put : A → List ℕ} {Ok : A → Type 0} {ms : List Mark} {s : List ℕ} {p : ℕ} {v v' : A} {n n' : ℕ} → got v' n' ≡ got v n → Wrote put Ok ms s p v' n' → Wrote put Ok ms s p v n
told {A} {put} {Ok} {ms} {s} {p} e w = subst₂ (λ (x : A) (m : ℕ). Wrote put Ok ms s p x m) (cc e) (cc e) w

-- what is read in two parts is written in two parts
pub both_wrote : {A B C : Type 0} {put_a : A → List ℕ} {OkA : A → Type 0} {put_b : B → List ℕ} {OkB : B → Type 0} {put_c : C → List ℕ} {OkC : C → Type 0}
    {s : List ℕ} {p : ℕ} {ms : List Mark} {a : A} {m : ℕ} → Wrote put_a OkA ms s p a m → (ns : ℕ → List Mark) {b : B} {n : ℕ} → Wrote put_b OkB (ns m) s m b n
    → (c : C) → put_c c ≡ put_a a ++ put_b b → OkC c → {q : ℕ} → q ≡ m → Wrote put_c OkC (ms ++ ns q) s p c n
both_wrote wa ns wb c e ok eq =
    rw eq record {
      fit = ok;
      same = rw (e, wa.same, wb.same, mark_append, drop-drop, wa.size);
      size = rw length-append (omega (arith, wa.size, wb.size));
      inside = wb.inside;
    }

-- n bytes of one mark
stretch : {A : Type 0} {put : A → List ℕ} {Ok : A → Type 0} (n : ℕ) (m : Mark) (s : List ℕ) (p : ℕ) → p ≤ length s → n ≤ left s p → {v : A} {next : ℕ} → next ≡ p + n
    → Ok v → put v ≡ mark_all (replicate n m) (drop p s) → Wrote put Ok (replicate n m) s p v next
stretch n m s p h room last ok e = record { fit = ok; same = e; size = rw length-replicate last; inside = omega arith }

-- ---- bytes and numbers

pub forward_raw : (n : ℕ) → Forward (bytes_at n) (λ v. v) (λ v. length v ≡ n) (λ s p. replicate n keep)
forward_raw n s bs p h v next e =
    let g = bytes_got n s p e in
    stretch n keep s p h g.2 g.1 (rw g.0 (part_length s p n g.2)) (g.0 ∙ sym (mark_keep n (drop p s)))

-- what is made of n bytes
forward_made : {A : Type 0} (n : ℕ) (g : List ℕ → A) (m : Mark) (put : A → List ℕ) (Ok : A → Type 0)
    → ((s : List ℕ) → Bytes s → (p : ℕ) → n ≤ left s p → Ok (g (part s p n)) × (put (g (part s p n)) ≡ mark_all (replicate n m) (drop p s)))
    → Forward (λ s p. after (bytes_at n s p) (λ b next. got (g b) next)) put Ok (λ s p. replicate n m)
forward_made n g m put Ok each s bs p h v next e =
    let x = after_got (bytes_at n s p) _ e in
    let y = bytes_got n s p x.2 in
    let is : g (part s p n) ≡ v = cc (x.3, y.0) in
    let w = each s bs p y.2 in
    let last : next ≡ p + n = cc (x.3, y.1) in
    stretch n m s p h y.2 last (rw is at w.0) (rw is at w.1)

pub forward_num : (n : ℕ) → Forward (le_at n) (le_bytes n) (λ v. v < 256 ^ n) (λ s p. replicate n keep)
unfolding le_at
forward_num n = forward_made n le keep (le_bytes n) (λ v. v < 256 ^ n) (λ s bs p h. (part_below s bs p n h, part_bytes s bs p n h ∙ sym (mark_keep n (drop p s))))

forward_reserved : (n : ℕ) → Forward (λ s p. after (bytes_at n s p) (λ bs next. got (tt {0}) next)) (λ v. replicate n 0) (λ v. Unit {0}) (λ s p. replicate n clear)
forward_reserved n = forward_made n (λ b. tt) clear (λ v. replicate n 0) (λ v. Unit {0}) (λ s bs p h. (tt, sym (mark_clear n (drop p s) (simp length-drop h))))

forward_low : (n : ℕ) → Forward (λ s p. after (bytes_at n s p) (λ b next. got (map low7 b) next)) (λ v. v) (λ v. (length v ≡ n) × All (λ b. b < 128) v) (λ s p. replicate n low)
forward_low n =
    forward_made n (map low7) low (λ v. v) (λ v. (length v ≡ n) × All (λ b. b < 128) v)
    (λ s bs p h. ((length-map (part s p n) low7 ∙ part_length s p n h, low_all (part s p n)), sym (mark_each n low (drop p s))))
  where
    low_all : (l : List ℕ) → All (λ b. b < 128) (map low7 l)
    low_all [] = tt
    low_all (b ∷ l) = (omega arith, low_all l)

pub drop_next : (s : List ℕ) (p : ℕ) → p < length s → drop p s ≡ get_or s p 0 ∷ drop (p + 1) s
drop_next s p h = rw add-one (drop-cons s p 0 h)

-- a byte, and what is made of it
byte_wrote : {A : Type 0} {put : A → List ℕ} {Ok : A → Type 0} (m : Mark) (s : List ℕ) (p : ℕ) {b k next : ℕ} {v : A} → le_at 1 s p ≡ got b k → next ≡ k → Ok v → put v ≡ marked m (get_or s p 0) ∷ []
    → Wrote put Ok (m ∷ []) s p v next
byte_wrote m s p e last ok is =
    let g = byte_got s p e in
    stretch 1 m s p (omega (arith, g.2)) (omega (arith, g.2)) (last ∙ g.1) ok (rw (drop_next s p g.2) is)

pub forward_byte : Forward (le_at 1) (λ b. b ∷ []) (λ b. b < 256) (λ s p. keep ∷ [])
forward_byte s bs p h v next e =
    let g = byte_got s p e in
    byte_wrote keep s p e refl (rw g.0 (byte_below s bs p g.2)) (rw g.0)

forward_flag : Forward (λ s p. after (le_at 1 s p) (λ b next. got (eqb b 1) next)) (λ v. flag_byte v ∷ []) (λ v. Unit {0}) (λ s p. one ∷ [])
forward_flag s bs p h v next e =
    let x = after_got (le_at 1 s p) _ e in
    let is : v ≡ eqb (get_or s p 0) 1 = cc (x.3, (byte_got s p x.2).0) in
    byte_wrote one s p x.2 (cc x.3) tt (rw is)

-- ---- compact sizes

forward_wide : (n least : ℕ) → Forward (wide_at n least) (le_bytes n) (λ v. (least ≤ v) × (v < 256 ^ n)) (λ s p. replicate n keep)
unfolding wide_at
forward_wide n least s bs p h v next e =
    let x = after_got (le_at n s p) _ e in
    let y = choose_got (leb least x.0) _ _ x.3 in
    let w = told y.1 (forward_num n s bs p h x.0 x.1 x.2) in
    let is : x.0 ≡ v = cc y.1 in
    record { fit = (omega (arith, leb-true least x.0 y.0), w.fit); same = w.same; size = w.size; inside = w.inside }

-- a compact size: its bytes, where it ends, and its value
pub record Compact (s : List ℕ) (p v next : ℕ) : Type 0 where
  pub same : compact_bytes v ≡ part s p (next - p)
  pub low : p < next
  pub inside : next ≤ length s
  pub fits : v < 2 ^ 64

-- it is kept
kept_compact : (n : ℕ) (s : List ℕ) (p v next : ℕ) → Wrote compact_bytes (λ k. k < 2 ^ 64) (keep ∷ replicate n keep) s p v next → Compact s p v next
kept_compact n s p v next w =
    let last : next ≡ p + suc n = rw length-replicate at w.size in
    let gap : next - p ≡ suc n = omega arith in
    record { same = rw gap (w.same ∙ mark_keep (suc n) (drop p s)); low = omega arith; inside = w.inside; fits = w.fit }

compact_from_lem : (s : List ℕ) → Bytes s → (p b m : ℕ) → le_at 1 s p ≡ got b m → First b → (v next : ℕ) → compact_from b s m ≡ got v next → Compact s p v next
unfolding compact_from
compact_from_lem s bs p b m e₁ (alone a) v next e =
    let here : got b m ≡ got v next = rw (lt-ltb _ _ a) at e in
    let w = told here (forward_byte s bs p (omega (arith, (byte_got s p e₁).2)) b m e₁) in
    let is : b ≡ v = cc here in
    let below : v < 253 = omega arith in
    kept_compact 0 s p v next (record { fit = omega arith; same = rw (byte_alone v below) w.same; size = w.size; inside = w.inside })
compact_from_lem s bs p b m e₁ (leads {n} {least} k) v next e =
    let w = forward_byte s bs p (omega (arith, (byte_got s p e₁).2)) b m e₁ in
    let r = forward_wide n least s bs m w.inside v next (sym (wide_from k s m) ∙ e) in
    kept_compact n s p v next (both_wrote w (λ q. replicate n keep) r v (wide_bytes k v r.fit.0 r.fit.1) (wide_below k v r.fit.1) refl)

pub compact_got : (s : List ℕ) → Bytes s → (p v next : ℕ) → compact_at s p ≡ got v next → Compact s p v next
unfolding compact_at
compact_got s bs p v next e =
    let x = after_got (le_at 1 s p) _ e in
    let g = byte_got s p x.2 in
    let is_byte : x.0 < 256 = rw g.0 (byte_below s bs p g.2) in
    compact_from_lem s bs p x.0 x.1 x.2 (first x.0 is_byte) v next x.3

pub compact_wrote : {s : List ℕ} {p v next : ℕ} → Compact s p v next → Wrote compact_bytes (λ k. k < 2 ^ 64) (replicate (next - p) keep) s p v next
compact_wrote {s} {p} {v} {next} c =
    stretch (next - p) keep s p (omega (arith, c.low, c.inside)) (omega (arith, c.low, c.inside)) (omega (arith, c.low)) c.fits (c.same ∙ sym (mark_keep (next - p) (drop p s)))

-- ---- the formats, each over any items

forward_text : Forward (λ s p. after (le_at 1 s p) (λ n next. after (bytes_at n s next) (λ b last. got (map low7 b) last))) (λ v. length v ∷ v)
    (λ v. (length v ≤ 255) × All (λ b. b < 128) v) (λ s p. keep ∷ replicate (get_or s p 0) low)
forward_text s bs p h v next e =
    let x = after_got (le_at 1 s p) _ e in
    let g = byte_got s p x.2 in
    let w = forward_byte s bs p h x.0 x.1 x.2 in
    let r = forward_low x.0 s bs x.1 w.inside v next x.3 in
    rw (← g.0) (both_wrote w (λ q. replicate x.0 low) r v (rw r.fit.0) (omega (arith, w.fit, r.fit.0), r.fit.1) refl)

mark_choose : (b : Bool) (n : ℕ) (l : List ℕ) → n ≤ length l → mark_all (replicate n (choose b keep clear)) l ≡ choose b (take n l) (replicate n 0)
mark_choose true n l h = mark_keep n l
mark_choose false n l h = mark_clear n l h

-- 1 + n + m bytes, of which the first and the last m are cleared, and n are kept or cleared
host_wrote : (n m : ℕ) (s : List ℕ) (p : ℕ) (b : Bool) (v : List ℕ) (next : ℕ) → v ≡ choose b (part s (p + 1) n) (replicate n 0) → next ≡ p + 1 + (n + m) → p + 1 + (n + m) ≤ length s
    → Wrote (λ u. 0 ∷ (u ++ replicate m 0)) (λ u. length u ≡ n) (clear ∷ (replicate n (choose b keep clear) ++ replicate m clear)) s p v next
host_wrote n m s p b v next is last room =
    let there : n ≤ length (drop (p + 1) s) = simp length-drop (omega arith) in
    let after-it : m ≤ length (drop n (drop (p + 1) s)) = simp length-drop (omega arith) in
    let kept : v ≡ mark_all (replicate n (choose b keep clear)) (drop (p + 1) s) = is ∙ sym (mark_choose b n (drop (p + 1) s) there) in
    record {
      fit = rw kept (length_mark (replicate n (choose b keep clear)) (drop (p + 1) s) (rw length-replicate there) ∙ length-replicate n (choose b keep clear));
      same = rw (drop_next s p (omega arith), kept, mark_append, length-replicate, mark_clear m (drop n (drop (p + 1) s)) after-it);
      size = simp (length-append, length-replicate) (omega arith);
      inside = omega arith;
    }

forward_host : Forward (λ s p. after (le_at 1 s p) (λ kind next. after (bytes_at 36 s next) (λ b last. got (ip_of kind b) last)))
    (λ v. 0 ∷ (v ++ replicate 20 0)) (λ v. length v ≡ 16) (λ s p. clear ∷ (replicate 16 (host_mark (get_or s p 0)) ++ replicate 20 clear))
forward_host s bs p h v next e =
    let x = after_got (le_at 1 s p) _ e in
    let g = byte_got s p x.2 in
    let y = after_got (bytes_at 36 s x.1) _ x.3 in
    let k = bytes_got 36 s x.1 y.2 in
    let start : take 16 (part s (p + 1) 36) ≡ part s (p + 1) 16 = take-take 16 36 (drop (p + 1) s) (lit≤ tt) in
    let is : v ≡ choose (eqb (get_or s p 0) 0) (part s (p + 1) 16) (replicate 16 0) = cc (y.3, k.0, g.0, g.1, start) in
    let last : next ≡ p + 1 + (16 + 20) = cc (y.3, k.1, g.1) in
    host_wrote 16 20 s p (eqb (get_or s p 0) 0) v next is last (omega (arith, k.2, g.1))

-- items read one after another
pub forward_many : {A : Type 0} (item : List ℕ → ℕ → Outcome A) (put : A → List ℕ) (Ok : A → Type 0) (ms : List ℕ → ℕ → List Mark) → Forward item put Ok ms
    → (n : ℕ) → Forward (many n item) (write_all put) (λ l. (length l ≡ n) × All Ok l) (marks_many n ms)
forward_many item put Ok ms each zero s bs p h v next e = told e (record { fit = (refl, tt); same = refl; size = omega arith; inside = h })
forward_many item put Ok ms each (suc n) s bs p h v next e =
    let x = after_got (item s p) _ e in
    let y = after_got (many n item s x.1) _ x.3 in
    let w = each s bs p h x.0 x.1 x.2 in
    let r = forward_many item put Ok ms each n s bs x.1 w.inside y.0 y.1 y.2 in
    told y.3 (both_wrote w (marks_many n ms s) r (x.0 ∷ y.0) refl (ap suc r.fit.0, (w.fit, r.fit.1)) (sym w.size))

forward_counted : {A : Type 0} (item : List ℕ → ℕ → Outcome A) (put : A → List ℕ) (Ok : A → Type 0) (ms : List ℕ → ℕ → List Mark) → Forward item put Ok ms → (limit field : ℕ)
    → Forward (λ s p. after (count_at limit field s p) (λ n next. many n item s next)) (λ v. compact_bytes (length v) ++ write_all put v)
    (λ v. (length v ≤ limit) × (length v < 2 ^ 64) × All Ok v)
    (λ s p. replicate (extent (compact_at s p) p) keep ++ marks_many (count_of (compact_at s p)) ms s (p + extent (compact_at s p) p))
forward_counted item put Ok ms each limit field s bs p h v next e =
    let x = after_got (count_at limit field s p) _ e in
    let t = count_got limit field s p x.2 in
    let c = compact_got s bs p x.0 x.1 t.0 in
    let r = forward_many item put Ok ms each x.0 s bs x.1 c.inside v next x.3 in
    rw t.0 (both_wrote (compact_wrote c) (marks_many x.0 ms s) r v (rw r.fit.0) (omega (arith, t.1, r.fit.0), omega (arith, c.fits, r.fit.0), r.fit.1) (omega (arith, c.low)))

-- two kept stretches are one
both_kept : {A B C : Type 0} {put_a : A → List ℕ} {OkA : A → Type 0} {put_b : B → List ℕ} {OkB : B → Type 0} {put_c : C → List ℕ} {OkC : C → Type 0}
    {s : List ℕ} {p : ℕ} {a : A} {m : ℕ} → Wrote put_a OkA (replicate (m - p) keep) s p a m → {b : B} {n : ℕ} → Wrote put_b OkB (replicate (n - m) keep) s m b n
    → (c : C) → put_c c ≡ put_a a ++ put_b b → OkC c → Wrote put_c OkC (replicate (n - p) keep) s p c n
both_kept {p = p} {m = m} wa {n = n} wb c e ok =
    let a : m ≡ p + (m - p) = rw length-replicate at wa.size in
    let b : n ≡ m + (n - m) = rw length-replicate at wb.size in
    let gap : (m - p) + (n - m) ≡ n - p = omega arith in
    rw (← gap, ← replicate-append-replicate) (both_wrote wa (λ q. replicate (n - m) keep) wb c e ok refl)

pub varbytes_wrote : (limit : ℕ) (s : List ℕ) → Bytes s → (p : ℕ) (x : List ℕ) (next : ℕ) → varbytes_at limit s p ≡ got x next
    → Wrote varbytes (λ l. (length l ≤ limit) × (length l < 2 ^ 64)) (replicate (next - p) keep) s p x next
unfolding varbytes_at varbytes bounded_at
varbytes_wrote limit s bs p x next e =
    let y = after_got (count_at limit 0 s p) _ e in
    let t = count_got limit 0 s p y.2 in
    let z = choose_got (leb y.0 limit) _ _ y.3 in
    let c = compact_got s bs p y.0 y.1 t.0 in
    let r = forward_raw y.0 s bs y.1 c.inside x next z.1 in
    let last : y.0 ≡ next - y.1 = omega (arith, rw length-replicate at r.size) in
    both_kept (compact_wrote c) (rw last at r) x (rw r.fit) (omega (arith, t.1, r.fit), omega (arith, c.fits, r.fit))

-- indexes read from a base rise from it, and are written as the differences that were read
differences_got : (n base : ℕ) (s : List ℕ) → Bytes s → (p : ℕ) → p ≤ length s → (v : List ℕ) (next : ℕ) → indexes_from n base s p ≡ got v next
    → Wrote (differences base) (λ l. (length l ≡ n) × Rising base l) (replicate (next - p) keep) s p v next
differences_got zero base s bs p h v next e =
    let last : next ≡ p = cc e in
    let gap : next - p ≡ 0 = omega arith in
    rw gap (told e (record { fit = (refl, tt); same = refl; size = omega arith; inside = h }))
differences_got (suc n) base s bs p h v next e =
    let x = after_got (count_at 65535 index_field s p) _ e in
    let t = choose_got (leb (base + x.0) 65535) _ _ x.3 in
    let y = after_got (indexes_from n (base + x.0 + 1) s x.1) _ t.1 in
    let c = compact_got s bs p x.0 x.1 (count_got 65535 index_field s p x.2).0 in
    let r = differences_got n (base + x.0 + 1) s bs x.1 c.inside y.0 y.1 y.2 in
    let diff : base + x.0 - base ≡ x.0 = omega arith in
    subst₂ (λ (l : List ℕ) (m : ℕ). Wrote (differences base) (λ k. (length k ≡ suc n) × Rising base k) (replicate (m - p) keep) s p l m) (cc y.3) (cc y.3)
    (both_kept (compact_wrote c) r ((base + x.0) ∷ y.0) (ap (λ (d : ℕ). compact_bytes d ++ differences (base + x.0 + 1) y.0) diff) (ap suc r.fit.0, (omega arith, leb-true _ _ t.0, r.fit.1)))

forward_indexes : Forward (read indexes) (write indexes) (Fit indexes) (marks indexes)
unfolding read write marks
forward_indexes s bs p h v next e =
    let x = after_got (count_at 16662 index_count_field s p) _ e in
    let t = count_got 16662 index_count_field s p x.2 in
    let c = compact_got s bs p x.0 x.1 t.0 in
    let r = differences_got x.0 0 s bs x.1 c.inside v next x.3 in
    rw e (both_kept (compact_wrote c) r v (rw r.fit.0) (omega (arith, t.1, r.fit.0), r.fit.1))

-- all of n bytes as a record of their own
forward_whole : {A : Type 0} (n : ℕ) (item : List ℕ → ℕ → Outcome A) (put : A → List ℕ) (Ok : A → Type 0) (ms : List ℕ → ℕ → List Mark) → Forward item put Ok ms
    → Forward (λ s p. after (bytes_at n s p) (λ b next. after (to_end item b) (λ v last. got v next))) put (λ v. (length (put v) ≡ n) × Ok v) (λ s p. ms (part s p n) 0)
forward_whole n item put Ok ms each s bs p h v next e =
    let x = after_got (bytes_at n s p) _ e in
    let g = bytes_got n s p x.2 in
    let y = after_got (to_end item x.0) _ x.3 in
    let k = to_end_got item x.0 y.2 in
    let long = part_length s p n g.2 in
    let is : item (part s p n) 0 ≡ got v y.1 = cc (k.0, g.0, y.3) in
    let w = each (part s p n) (bytes_take n (bytes_drop p bs)) 0 (omega arith) v y.1 is in
    let all : length (ms (part s p n) 0) ≡ n = omega (arith, w.size, w.inside, k.1, ap length g.0) in
    let last : next ≡ p + n = cc (y.3, g.1) in
    record {
      fit = (ap length w.same ∙ (length_mark (ms (part s p n) 0) (part s p n) (omega arith) ∙ all), w.fit);
      same = w.same ∙ mark_take (ms (part s p n) 0) n (drop p s) (omega arith);
      size = rw all last;
      inside = omega (arith, g.2);
    }

forward_tagged : {A : ℕ → Type 0} (item : (t : ℕ) → List ℕ → ℕ → Outcome (A t)) (put : (t : ℕ) → A t → List ℕ) (Ok : (t : ℕ) → A t → Type 0) (ms : ℕ → List ℕ → ℕ → List Mark)
    → ((t : ℕ) → Forward (item t) (put t) (Ok t) (ms t))
    → Forward {A = (t : ℕ) × A t} (λ s p. after (le_at 1 s p) (λ t next. after (item t s next) (λ v last. got (t, v) last))) (λ u. u.0 ∷ put u.0 u.1) (λ u. (u.0 < 256) × Ok u.0 u.1)
    (λ s p. keep ∷ ms (get_or s p 0) s (p + 1))
forward_tagged item put Ok ms each s bs p h v next e =
    let x = after_got (le_at 1 s p) _ e in
    let g = byte_got s p x.2 in
    let w = forward_byte s bs p h x.0 x.1 x.2 in
    let y = after_got (item x.0 s x.1) _ x.3 in
    let r = each x.0 s bs x.1 w.inside y.0 y.1 y.2 in
    rw (← g.0) (told y.3 (both_wrote w (ms x.0 s) r (x.0, y.0) refl (w.fit, r.fit) (sym g.1)))

forward_pair : {A B : Type 0} (f : List ℕ → ℕ → Outcome A) (put_a : A → List ℕ) (OkA : A → Type 0) (ms : List ℕ → ℕ → List Mark) → Forward f put_a OkA ms
    → (g : List ℕ → ℕ → Outcome B) (put_b : B → List ℕ) (OkB : B → Type 0) (ns : List ℕ → ℕ → List Mark) → Forward g put_b OkB ns
    → Forward {A = A × B} (λ s p. after (f s p) (λ a next. after (g s next) (λ b last. got (a, b) last))) (λ v. put_a v.0 ++ put_b v.1) (λ v. OkA v.0 × OkB v.1)
    (λ s p. ms s p ++ ns s (p + length (ms s p)))
forward_pair f put_a OkA ms for_a g put_b OkB ns for_b s bs p h v next e =
    let x = after_got (f s p) _ e in
    let y = after_got (g s x.1) _ x.3 in
    let w = for_a s bs p h x.0 x.1 x.2 in
    let r = for_b s bs x.1 w.inside y.0 y.1 y.2 in
    told y.3 (both_wrote w (ns s) r (x.0, y.0) refl (w.fit, r.fit) (sym w.size))

-- What a format reads it can write, and it writes the bytes that it read, each as its mark says.
pub forward : WritesAgain
unfolding read write marks
forward nothing = λ s bs p h v next e. told e (record { fit = tt; same = refl; size = omega arith; inside = h })
forward (num n) = forward_num n
forward (raw n) = forward_raw n
forward (reserved n) = forward_reserved n
forward host = forward_host
forward flag = forward_flag
forward (text field) = forward_text
forward (counted limit field f) = forward_counted (read f) (write f) (Fit f) (marks f) (forward f) limit field
forward indexes = forward_indexes
forward (whole n f) = forward_whole n (read f) (write f) (Fit f) (marks f) (forward f)
forward (tagged k) = forward_tagged (λ t. read (k t)) (λ t. write (k t)) (λ t. Fit (k t)) (λ t. marks (k t)) (λ t. forward (k t))
forward (f ▸ g) = forward_pair (read f) (write f) (Fit f) (marks f) (forward f) (read g) (write g) (Fit g) (marks g) (forward g)
