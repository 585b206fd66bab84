-- A number more at a place of a tally, on plain lists. Assumes nothing.
use Prim.Native.Nat.{ℕ, ◌+◌, ◌<◌, ◌^◌}
use native.Mathlib.Nat.{min-eq_left}
use native.Mathlib.Omega.{arith}
use mathlib.Core.Path.{◌≡◌, sym, ap, ◌∙◌}
use mathlib.Core.List.{List}
use lib.ListN.{length, get_or, set, length-set}
use lib.Seq.{get_or-set_same, get_or-set_other, set-get_or, set-set, set_comm}
use Rattle.hns_encoding.specs.Put.{advance}
use Rattle.hns_p2p_tally.specs.Tally.{bytes_from, frame_total, byte_total, add_at, at_type, with_frame}

pub length_add_at : (t : List ℕ) (i n : ℕ) → length (add_at t i n) ≡ length t
unfolding add_at
length_add_at t i n = length-set t i (advance (get_or t i 0) n)

pub length_at_type : (t : List ℕ) (k n : ℕ) → length (at_type t k n) ≡ length t
unfolding at_type
length_at_type t k n = length_add_at (add_at t k 1) (bytes_from + k) n ∙ length_add_at t k 1

pub length_with_frame : (t : List ℕ) (k n : ℕ) → length (with_frame t k n) ≡ length t
unfolding with_frame
length_with_frame t k n = length_add_at (add_at (at_type t k n) frame_total 1) byte_total n ∙ length_add_at (at_type t k n) frame_total 1 ∙ length_at_type t k n

-- ---- what is added at one place, and in what order, does not matter

advance_twice : (a m n : ℕ) → advance (advance a m) n ≡ advance a (m + n)
unfolding advance
advance_twice a m n = omega arith

pub add_none : (t : List ℕ) (i : ℕ) → get_or t i 0 < 2 ^ 64 → add_at t i 0 ≡ t
unfolding add_at advance
add_none t i h = ap (set t i) (min-eq_left (omega arith) ∙ omega arith) ∙ set-get_or t i 0

pub add_twice : (t : List ℕ) (i m n : ℕ) → i < length t → add_at (add_at t i m) i n ≡ add_at t i (m + n)
unfolding add_at
add_twice t i m n h =
    rw (set-set t i (advance (get_or t i 0) m) (advance (get_or (set t i (advance (get_or t i 0) m)) i 0) n), get_or-set_same t i (advance (get_or t i 0) m) 0 h)
    (ap (set t i) (advance_twice (get_or t i 0) m n))

pub add_swap : (t : List ℕ) (i j m n : ℕ) → ¬ (i ≡ j) → add_at (add_at t i m) j n ≡ add_at (add_at t j n) i m
unfolding add_at
add_swap t i j m n h =
    rw (get_or-set_other t i j (advance (get_or t i 0) m) 0 (λ e. h (sym e)), get_or-set_other t j i (advance (get_or t j 0) n) 0 h)
    (set_comm t i j (advance (get_or t i 0) m) (advance (get_or t j 0) n) h)
