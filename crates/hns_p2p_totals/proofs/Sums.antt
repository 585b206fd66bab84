-- Sums over the places of a tally, and over the type bytes of frames. Assumes nothing.
use Prim.Native.Nat.{ℕ, zero, suc, ◌+◌, ◌≤◌, ◌<◌}
use mathlib.Core.Path.{◌≡◌, refl, ap₂, ◌∙◌}
use mathlib.Core.List.{List, [], ◌∷◌, ◌++◌}
use native.Mathlib.Omega.{arith}
use lib.ListN.{length, get_or, take}
use lib.Dec.{eqb, leb}
use mathlib.Core.Bool.{Bool, true, false}
use borrow.Author.Tests.{eqb-true, eqb-false, leb-true, leb-false}
use Rattle.hns_encoding.specs.Bytes.{choose}
use Rattle.hns_encoding.specs.Format.{All}
use Rattle.hns_encoding.proofs.Outcomes.{choose_holds}
use Rattle.hns_p2p_frame.specs.Frame.{Frame, WellFormed}
use Rattle.hns_p2p_tally.specs.Tally.{size_of, frames_of, bytes_of, sum}
use Rattle.hns_p2p_tally.proofs.Once.{sizes}

-- the sum of a number for each place below n
pub up_to : ℕ → (ℕ → ℕ) → ℕ
up_to zero f = 0
up_to (suc n) f = up_to n f + f n

sum_next : (t : List ℕ) (n : ℕ) → sum (take (suc n) t) ≡ sum (take n t) + get_or t n 0
unfolding sum
sum_next [] zero = refl
sum_next [] (suc n) = refl
sum_next (a ∷ t) zero = omega arith
sum_next (a ∷ t) (suc n) = omega (arith, sum_next t n)

pub sum_places : (t : List ℕ) (n : ℕ) → sum (take n t) ≡ up_to n (λ k. get_or t k 0)
unfolding sum up_to
sum_places t zero = refl
sum_places t (suc n) = omega (arith, sum_next t n, sum_places t n)

pub up_same : (n : ℕ) (f g : ℕ → ℕ) → ((k : ℕ) → k < n → f k ≡ g k) → up_to n f ≡ up_to n g
unfolding up_to
up_same zero f g e = refl
up_same (suc n) f g e = ap₂ (λ (a b : ℕ). a + b) (up_same n f g (λ k h. e k (omega arith))) (e n (omega arith))

pub up_add : (n : ℕ) (f g : ℕ → ℕ) → up_to n (λ k. f k + g k) ≡ up_to n f + up_to n g
unfolding up_to
up_add zero f g = refl
up_add (suc n) f g = omega (arith, up_add n f g)

-- no place has more than all
pub up_most : (n : ℕ) (f : ℕ → ℕ) (k : ℕ) → k < n → f k ≤ up_to n f
unfolding up_to
up_most zero f k h = absurd (omega arith)
up_most (suc n) f k h = go (λ l. up_most n f k l) (leb (suc k) n) refl
  where
    go : (k < n → f k ≤ up_to n f) → (b : Bool) → leb (suc k) n ≡ b → f k ≤ up_to n f + f n
    go ih true e = omega (arith, ih (omega (arith, leb-true (suc k) n e)))
    go ih false e = let q : k ≡ n = omega (arith, leb-false (suc k) n e) in rw q (omega arith)

-- one place alone has m
up_none : (n k m : ℕ) → n ≤ k → up_to n (λ i. choose (eqb k i) m 0) ≡ 0
unfolding up_to
up_none zero k m h = refl
up_none (suc n) k m h =
    choose_holds (λ (c : ℕ). up_to n (λ i. choose (eqb k i) m 0) + c ≡ 0) (eqb k n)
    (λ e. absurd (omega (arith, eqb-true k n e)))
    (λ e. omega (arith, up_none n k m (omega arith)))

up_one : (n k m : ℕ) → k < n → up_to n (λ i. choose (eqb k i) m 0) ≡ m
unfolding up_to
up_one zero k m h = absurd (omega arith)
up_one (suc n) k m h =
    choose_holds (λ (c : ℕ). up_to n (λ i. choose (eqb k i) m 0) + c ≡ m) (eqb k n)
    (λ e. omega (arith, up_none n k m (omega (arith, eqb-true k n e))))
    (λ e. omega (arith, up_one n k m (omega (arith, eqb-false k n e))))

-- ---- the type bytes of frames

pub fewer : (fs : List Frame) → length fs ≤ sizes fs
unfolding sizes
fewer [] = omega arith
fewer (f ∷ fs) = omega (arith, fewer fs)

pub none_up : (n : ℕ) → up_to n (λ k. 0) ≡ 0
unfolding up_to
none_up zero = refl
none_up (suc n) = omega (arith, none_up n)

pub all_frames : (fs : List Frame) → All WellFormed fs → up_to 256 (λ k. frames_of k fs) ≡ length fs
unfolding frames_of
all_frames [] a = none_up 256
all_frames (f ∷ fs) a = up_add 256 (λ k. choose (eqb f.packet_type k) 1 0) (λ k. frames_of k fs) ∙ omega (arith, up_one 256 f.packet_type 1 a.0.type_byte, all_frames fs a.1)

pub all_sizes : (fs : List Frame) → All WellFormed fs → up_to 256 (λ k. bytes_of k fs) ≡ sizes fs
unfolding bytes_of sizes
all_sizes [] a = none_up 256
all_sizes (f ∷ fs) a = up_add 256 (λ k. choose (eqb f.packet_type k) (size_of f) 0) (λ k. bytes_of k fs) ∙ omega (arith, up_one 256 f.packet_type (size_of f) a.0.type_byte, all_sizes fs a.1)

pub frames_append : (k : ℕ) (fs gs : List Frame) → frames_of k (fs ++ gs) ≡ frames_of k fs + frames_of k gs
unfolding frames_of
frames_append k [] gs = omega arith
frames_append k (f ∷ fs) gs = omega (arith, frames_append k fs gs)

pub bytes_append : (k : ℕ) (fs gs : List Frame) → bytes_of k (fs ++ gs) ≡ bytes_of k fs + bytes_of k gs
unfolding bytes_of
bytes_append k [] gs = omega arith
bytes_append k (f ∷ fs) gs = omega (arith, bytes_append k fs gs)

pub sizes_append : (fs gs : List Frame) → sizes (fs ++ gs) ≡ sizes fs + sizes gs
unfolding sizes
sizes_append [] gs = omega arith
sizes_append (f ∷ fs) gs = omega (arith, sizes_append fs gs)

-- no type has more than all
pub frames_most : (k : ℕ) (fs : List Frame) → frames_of k fs ≤ length fs
unfolding frames_of
frames_most k [] = omega arith
frames_most k (f ∷ fs) =
    let ih = frames_most k fs in
    choose_holds (λ (c : ℕ). c + frames_of k fs ≤ suc (length fs)) (eqb f.packet_type k) (λ e. omega arith) (λ e. omega arith)

pub bytes_most : (k : ℕ) (fs : List Frame) → bytes_of k fs ≤ sizes fs
unfolding bytes_of sizes
bytes_most k [] = omega arith
bytes_most k (f ∷ fs) =
    let ih = bytes_most k fs in
    choose_holds (λ (c : ℕ). c + bytes_of k fs ≤ size_of f + sizes fs) (eqb f.packet_type k) (λ e. omega arith) (λ e. omega arith)
