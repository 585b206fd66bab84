-- What is not kept, by type. Assumes nothing.
use Prim.Native.Nat.{ℕ, zero, suc, ◌+◌}
use mathlib.Core.Path.{◌≡◌, refl, sym, ap, ap₂, ◌∙◌, subst}
use mathlib.Core.Bool.{Bool, true, false}
use mathlib.Core.List.{List, [], ◌∷◌, ◌++◌, append_assoc}
use native.Mathlib.Omega.{arith}
use native.Mathlib.Nat.{zero-add}
use lib.ListN.{length, get_or, drop, replicate, length-replicate}
use lib.Seq.{take_all, drop-drop}
use lib.Dec.{leb}
use Rattle.hns_encoding.specs.Bytes.{choose, part, Bytes, got, to_end}
use Rattle.hns_encoding.specs.Compact.{compact_at}
use Rattle.hns_encoding.specs.Format.{Format, nothing, num, raw, reserved, host, flag, text, counted, indexes, whole, tagged, ◌▸◌, Value, read, All}
use Rattle.hns_encoding.specs.Marks.{Mark, keep, low, mark_all, extent, count_of, marks_many, marks}
use Rattle.hns_encoding.proofs.Outcomes.{to_end_got, choose_got}
use Rattle.hns_encoding.proofs.Forward.{forward, mark_each, mark_keep, mark_append}
use Rattle.hns_p2p_types.specs.declared.Packet.TheVariants as P
use Rattle.hns_p2p_types.specs.Protocol.{address, version, addresses, carries_hash, reject, read_by}
use Rattle.hns_p2p_types.specs.Packets.{Row, rows, raw_bytes, row, layout, ◌&◌}
use Rattle.hns_p2p_wire.specs.NotKept.{zeroed, Run, become, address_runs, version_runs, reject_runs, addresses_runs, addr_runs, NotKept, Keeping, KeepsAll}

-- ---- marks that are all `keep`

abbrev Kept : List Mark → Type 0
Kept ms = All (λ m. m ≡ keep) ms

kept_many : (n : ℕ) → Kept (replicate n keep)
kept_many zero = tt
kept_many (suc n) = (refl, kept_many n)

kept_both : (ms ns : List Mark) → Kept ms → Kept ns → Kept (ms ++ ns)
kept_both [] ns h k = k
kept_both (m ∷ ms) ns h k = (h.0, kept_both ms ns h.1 k)

kept_items : (item : List ℕ → ℕ → List Mark) → ((s : List ℕ) (p : ℕ) → Kept (item s p)) → (n : ℕ) (s : List ℕ) (p : ℕ) → Kept (marks_many n item s p)
kept_items item h zero s p = tt
kept_items item h (suc n) s p = kept_both (item s p) _ (h s p) (kept_items item h n s (p + length (item s p)))

kept_is : (ms : List Mark) → Kept ms → ms ≡ replicate (length ms) keep
kept_is [] h = refl
kept_is (m ∷ ms) h = ap₂ (λ (a : Mark) (l : List Mark). a ∷ l) h.0 (kept_is ms h.1)

all_kept : (f : Format) → Keeping f → (s : List ℕ) (p : ℕ) → Kept (marks f s p)
unfolding Keeping marks
all_kept nothing h s p = tt
all_kept (num n) h s p = kept_many n
all_kept (raw n) h s p = kept_many n
all_kept (reserved n) h s p = absurd h
all_kept host h s p = absurd h
all_kept flag h s p = absurd h
all_kept (text field) h s p = absurd h
all_kept (counted limit field f) h s p =
    kept_both (replicate (extent (compact_at s p) p) keep) (marks_many (count_of (compact_at s p)) (marks f) s (p + extent (compact_at s p) p)) (kept_many (extent (compact_at s p) p)) (kept_items (marks f) (all_kept f h) (count_of (compact_at s p)) s (p + extent (compact_at s p) p))
all_kept indexes h s p = kept_many (extent (read indexes s p) p)
all_kept (whole n f) h s p = all_kept f h (part s p n) 0
all_kept (tagged k) h s p = (refl, all_kept (k (get_or s p 0)) (h (get_or s p 0)) s (p + 1))
all_kept (f ▸ g) h s p =
    let n = p + length (marks f s p) in
    kept_both (marks f s p) (marks g s n) (all_kept f h.0 s p) (all_kept g h.1 s n)

pub keeping : KeepsAll
keeping f h s p = kept_is (marks f s p) (all_kept f h s p)

-- ---- runs

abbrev marks_of : List Run → List Mark
marks_of [] = []
marks_of (r ∷ rs) = replicate r.many r.mark ++ marks_of rs

marks_both : (rs qs : List Run) → marks_of (rs ++ qs) ≡ marks_of rs ++ marks_of qs
marks_both [] qs = refl
marks_both (r ∷ rs) qs = ap (λ (l : List Mark). replicate r.many r.mark ++ l) (marks_both rs qs) ∙ sym (append_assoc (replicate r.many r.mark) (marks_of rs) (marks_of qs))

becomes : (rs : List Run) (s : List ℕ) (p : ℕ) → mark_all (marks_of rs) (drop p s) ≡ become rs s p
becomes [] s p = refl
becomes (r ∷ rs) s p =
    mark_append (replicate r.many r.mark) (marks_of rs) (drop p s)
    ∙ ap₂ (λ (a b : List ℕ). a ++ b) (mark_each r.many r.mark (drop p s))
    (ap (λ (n : ℕ). mark_all (marks_of rs) (drop n (drop p s))) (length-replicate r.many r.mark) ∙ (ap (mark_all (marks_of rs)) (drop-drop r.many p s) ∙ becomes rs s (p + r.many)))

-- ---- an address

address_from : (s : List ℕ) (p q : ℕ) → p + 8 + 4 + 4 ≡ q → marks address s p ≡ marks_of (address_runs (get_or s q 0))
unfolding marks
address_from s p q e = ap (λ (k : ℕ). marks_of (address_runs (get_or s k 0))) e

address_marks : (s : List ℕ) (p : ℕ) → marks address s p ≡ marks_of (address_runs (get_or s (p + 16) 0))
address_marks s p = address_from s p (p + 16) (omega arith)

address_size : (s : List ℕ) (p : ℕ) → length (marks address s p) ≡ 88
unfolding marks
address_size s p = refl

addresses_marks : (n : ℕ) (s : List ℕ) (p : ℕ) → marks_many n (marks address) s p ≡ marks_of (addresses_runs n s p)
addresses_marks zero s p = refl
addresses_marks (suc n) s p =
    let here = address_runs (get_or s (p + 16) 0) in
    ap₂ (λ (a b : List Mark). a ++ b) (address_marks s p)
    (ap (λ (k : ℕ). marks_many n (marks address) s (p + k)) (address_size s p) ∙ addresses_marks n s (p + 88))
    ∙ sym (marks_both here (addresses_runs n s (p + 88)))

-- ---- by type

version_marks : (s : List ℕ) → marks version s 0 ≡ marks_of (version_runs s)
unfolding marks
version_marks s = refl

addr_marks : (s : List ℕ) → marks addresses s 0 ≡ marks_of (addr_runs s)
unfolding marks
addr_marks s =
    let w = extent (compact_at s 0) 0 in
    ap (λ (l : List Mark). replicate w keep ++ l) (ap (λ (k : ℕ). marks_many (count_of (compact_at s 0)) (marks address) s k) (zero-add w) ∙ addresses_marks (count_of (compact_at s 0)) s w)

hash_marks : (b : Bool) (s : List ℕ) (p : ℕ) → marks (choose b (raw 32) nothing) s p ≡ replicate (choose b 32 0) keep ++ []
unfolding marks
hash_marks true s p = refl
hash_marks false s p = refl

reject_marks : (s : List ℕ) → marks reject s 0 ≡ marks_of (reject_runs s)
unfolding marks
reject_marks s = ap (λ (l : List Mark). keep ∷ keep ∷ keep ∷ (replicate (get_or s 2 0) low ++ l)) (hash_marks (carries_hash (get_or s 0 0)) s (2 + suc (length (replicate (get_or s 2 0) low))))

by_runs : (f : Format) (s : List ℕ) (rs : List Run) → marks f s 0 ≡ marks_of rs → mark_all (marks f s 0) s ≡ become rs s 0
by_runs f s rs e = ap (λ (ms : List Mark). mark_all ms s) e ∙ becomes rs s 0

-- ---- the other types

pub whole_kept : (f : Format) → Keeping f → (s : List ℕ) → Bytes s → (v : Value f) (last : ℕ) → to_end (read f) s ≡ got v last → mark_all (marks f s 0) s ≡ s
whole_kept f h s bs v last e =
    let g = to_end_got (read f) s e in
    let w = forward f s bs 0 (omega arith) v last g.0 in
    ap (λ (ms : List Mark). mark_all ms s) (keeping f h s 0) ∙ (mark_keep (length (marks f s 0)) s ∙ take_all (length (marks f s 0)) s (omega (arith, w.size, g.1)))

abbrev Keeps : Row → Type 0
Keeps w = (n : ℕ) → Keeping (w.layout n)

-- a row that keeps each byte, or one of those three
abbrev KeepsOr : ℕ → Row → Type 0
KeepsOr i w = ¬ (i ≡ 0) → ¬ (i ≡ 5) → ¬ (i ≡ 15) → Keeps w

abbrev EachFrom : ℕ → List Row → Type 0
EachFrom i [] = Unit {0}
EachFrom i (w ∷ ws) = KeepsOr i w × EachFrom (suc i) ws

look_up : (ws : List Row) (i t j : ℕ) (d : Row) → t + i ≡ j → Keeps d → EachFrom i ws → KeepsOr j (get_or ws t d)
look_up [] i t j d e h hs = λ a b c. h
look_up (w ∷ ws) i zero j d e h hs = let q : i ≡ j = omega arith in subst (λ (k : ℕ). KeepsOr k w) q hs.0
look_up (w ∷ ws) i (suc t) j d e h hs = look_up ws (suc i) t j d (omega arith) h hs.1

keeps_rows : EachFrom 0 rows
unfolding rows Keeping
keeps_rows =
    (λ a b c. absurd (a refl))
    & (λ a b c n. _)
    & (λ a b c n. _)
    & (λ a b c n. _)
    & (λ a b c n. _)
    & (λ a b c. absurd (b refl))
    & (λ a b c n. _)
    & (λ a b c n. _)
    & (λ a b c n. _)
    & (λ a b c n. _)
    & (λ a b c n. _)
    & (λ a b c n. _)
    & (λ a b c n. _)
    & (λ a b c n. _)
    & (λ a b c n. _)
    & (λ a b c. absurd (c refl))
    & (λ a b c n. _)
    & (λ a b c n. _)
    & (λ a b c n. _)
    & (λ a b c n. _)
    & (λ a b c n. _)
    & (λ a b c n. _)
    & (λ a b c n. _)
    & (λ a b c n. _)
    & (λ a b c n. _)
    & (λ a b c n. _)
    & (λ a b c n. _)
    & (λ a b c n. _)
    & (λ a b c n. _)
    & (λ a b c n. _)
    & tt

raw_keeps : (t : ℕ) → Keeps (raw_bytes (P.Unknown t))
unfolding Keeping
raw_keeps t n = tt

keeps_row : (t : ℕ) → KeepsOr t (row t)
unfolding row
keeps_row t = look_up rows 0 t t (raw_bytes (P.Unknown t)) (omega arith) (raw_keeps t) keeps_rows

others_kept : (t : ℕ) → ¬ (t ≡ 0) → ¬ (t ≡ 5) → ¬ (t ≡ 15) → (s : List ℕ) → Bytes s → (v : Value (layout t (length s))) (last : ℕ) → read_by (layout t) s ≡ got v last
    → zeroed (layout t) s ≡ s
unfolding read_by
others_kept t a b c s bs v last e =
    let g = choose_got (leb (length s) 8000000) _ _ e in
    whole_kept (layout t (length s)) (keeps_row t a b c (length s)) s bs v last g.1

pub not_kept : NotKept
unfolding row rows
not_kept =
    record {
      version = λ s. by_runs version s (version_runs s) (version_marks s);
      addr = λ s. by_runs addresses s (addr_runs s) (addr_marks s);
      reject = λ s. by_runs reject s (reject_runs s) (reject_marks s);
      others = others_kept;
    }
