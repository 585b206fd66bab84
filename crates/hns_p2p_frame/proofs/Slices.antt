-- Laws of lists that the copies of a push use. Assumes nothing.
use Prim.Native.Nat.{ℕ, ◌+◌, ◌-◌, ◌≤◌, zero-le}
use native.Mathlib.Nat.{zero-add}
use native.Mathlib.Omega.{arith}
use mathlib.Core.Path.{◌≡◌, sym, ◌∙◌}
use mathlib.Core.List.{List, ◌++◌, append_assoc}
use lib.ListN.{length, take, drop, length-append, take-append-drop}
use lib.Seq.{drop-drop, length-take-le, take_at, take-append_seam}
use borrow.Rule.Slice.PartMut.{put_mid}
use Rattle.std.specs.List.{copy_within}
use Rattle.hns_encoding.specs.Bytes.{part}
use Rattle.hns_encoding.specs.Put.{splice}
use Rattle.hns_encoding.proofs.Puts.{splice_fits}
use Rattle.hns_encoding.proofs.Numbers.{part_length}

-- a list with its front replaced
pub splice_front : (s x : List ℕ) → length x ≤ length s → splice s 0 x ≡ x ++ drop (length x) s
splice_front s x h = splice_fits s 0 x (omega arith) ∙ rw zero-add

pub take_spliced : (s x : List ℕ) → length x ≤ length s → take (length x) (splice s 0 x) ≡ x
take_spliced s x h = rw (splice_front s x h) (take-append_seam x (drop (length x) s))

-- by its own first bytes
pub splice_own : (n : ℕ) (s : List ℕ) → n ≤ length s → splice s 0 (take n s) ≡ s
splice_own n s h = splice_front s (take n s) (rw (length-take-le n s h) h) ∙ rw (length-take-le n s h) (take-append-drop n s)

-- a store with an input at the held count
pub splice_held : (s : List ℕ) (h : ℕ) (x : List ℕ) → h + length x ≤ length s → splice s h x ≡ (take h s ++ x) ++ drop (h + length x) s
splice_held s h x l = splice_fits s h x (omega arith) ∙ rw append_assoc

pub length_held : (s : List ℕ) (h : ℕ) (x : List ℕ) → h ≤ length s → length (take h s ++ x) ≡ h + length x
length_held s h x l = rw (length-append, length-take-le h s l)

pub take_held : (s : List ℕ) (h : ℕ) (x : List ℕ) → h + length x ≤ length s → take (h + length x) (splice s h x) ≡ take h s ++ x
take_held s h x l = rw (splice_held s h x l) (take_at (take h s ++ x) (drop (h + length x) s) (h + length x) (length_held s h x (omega arith)))

-- the bytes from h to t replaced by as many
pub part_put : (s x : List ℕ) (h t : ℕ) {y : List ℕ} → t ≡ h + length x → t ≤ length s → y ≡ x → put_mid h (t - h) s y ≡ splice s h x
part_put s x h t e f g =
    let n : t - h ≡ length x = omega arith in
    rw (g, n, drop-drop) (sym (splice_fits s h x (omega arith)))

-- bytes moved to the front
pub moved_down : (s : List ℕ) (from n : ℕ) → from + n ≤ length s → copy_within s from (from + n) 0 ≡ splice s 0 (part s from n)
moved_down s from n h =
    let k : length (part s from n) ≡ n = part_length s from n (omega arith) in
    let m : from + n - from ≡ n = omega arith in
    let z : 0 + n ≡ n = omega arith in
    rw (m, z) (sym (splice_front s (part s from n) (omega arith) ∙ rw k))

-- where there are none, each slice gets its own first bytes again
pub none_moved : (s : List ℕ) (from n : ℕ) → from ≤ 0 → from + n ≤ length s → s ≡ splice s 0 (part s from n)
none_moved s from n z h = let none : from ≡ 0 = omega arith in rw none (sym (splice_own n s (omega arith)))

pub none_put : (o s : List ℕ) (n : ℕ) → n ≤ 0 → o ≡ splice o 0 (take n s)
none_put o s n z = let none : n ≡ 0 = omega arith in rw none (sym (splice_own 0 o zero-le))
