-- Frames counted on top of a tally whose totals are its sums: each number grows by what the frames alone say, as long as no total passes 2^64 - 1. Assumes nothing.
use Prim.Native.Nat.{ℕ, ◌+◌, ◌^◌, ◌≤◌, ◌<◌}
use mathlib.Core.Path.{◌≡◌, sym, ap, ◌∙◌, subst}
use mathlib.Core.List.{List, [], ◌∷◌, ◌++◌, append_assoc, append-nil}
use native.Mathlib.Omega.{arith}
use native.Mathlib.Nat.{min-eq_left}
use lib.ListN.{length, get_or, drop, length-append}
use lib.Seq.{get_or-set_same, get_or-set_other, get_or-drop}
use lib.Dec.{eqb}
use borrow.Author.Tests.{eqb-true, eqb-false, eq-eqb, ne_eqb}
use Rattle.hns_encoding.specs.Bytes.{choose}
use Rattle.hns_encoding.specs.Format.{All}
use Rattle.hns_encoding.specs.Put.{advance}
use Rattle.hns_encoding.proofs.Outcomes.{choose_holds}
use Rattle.hns_p2p_frame.specs.Frame.{Frame, WellFormed}
use Rattle.hns_p2p_tally.specs.Tally.{tally_size, bytes_from, frame_total, byte_total, size_of, add_at, at_type, with_frame, recount, frames_of, bytes_of, sum, frame_counts, byte_counts}
use Rattle.hns_p2p_tally.proofs.Adds.{length_add_at, length_with_frame}
use Rattle.hns_p2p_tally.proofs.Once.{sizes}
use Rattle.hns_p2p_totals.specs.Totals.{Summed}
use Rattle.hns_p2p_totals.proofs.Sums.{up_to, sum_places, up_same, up_add, up_most, all_frames, all_sizes, frames_append, bytes_append, sizes_append, frames_most, bytes_most}

-- each number of t is that of t₀ and what the frames fs say
pub record Exact (t₀ t : List ℕ) (fs : List Frame) : Type 0 where
  pub frames : (k : ℕ) → k < 256 → get_or t k 0 ≡ get_or t₀ k 0 + frames_of k fs
  pub bytes : (k : ℕ) → k < 256 → get_or t (bytes_from + k) 0 ≡ get_or t₀ (bytes_from + k) 0 + bytes_of k fs
  pub frame_total_is : get_or t frame_total 0 ≡ get_or t₀ frame_total 0 + length fs
  pub byte_total_is : get_or t byte_total 0 ≡ get_or t₀ byte_total 0 + sizes fs

pub exact_none : (t : List ℕ) → Exact t t []
unfolding frames_of bytes_of sizes
exact_none t = record { frames = λ k h. omega arith; bytes = λ k h. omega arith; frame_total_is = omega arith; byte_total_is = omega arith }

-- ---- a tally whose totals are its sums has no number that is more than its total

frames_below : (t : List ℕ) → Summed t → (k : ℕ) → k < 256 → get_or t k 0 ≤ get_or t frame_total 0
frames_below t s k h = omega (arith, s.frames, sum_places t 256, up_most 256 (λ i. get_or t i 0) k h)

bytes_below : (t : List ℕ) → Summed t → (k : ℕ) → k < 256 → get_or t (bytes_from + k) 0 ≤ get_or t byte_total 0
bytes_below t s k h = omega (arith, s.bytes, sum_places (drop bytes_from t) 256, up_most 256 (λ i. get_or (drop bytes_from t) i 0) k h, get_or-drop bytes_from t k 0)

-- ---- one number more

get_other : (t : List ℕ) (i n j : ℕ) → ¬ (j ≡ i) → get_or (add_at t i n) j 0 ≡ get_or t j 0
unfolding add_at
get_other t i n j h = get_or-set_other t i j (advance (get_or t i 0) n) 0 h

get_same : (t : List ℕ) (i n : ℕ) → i < length t → get_or t i 0 + n < 2 ^ 64 → get_or (add_at t i n) i 0 ≡ get_or t i 0 + n
unfolding add_at advance
get_same t i n h k = get_or-set_same t i (advance (get_or t i 0) n) 0 h ∙ min-eq_left (omega arith)

-- the place i has n more, j any place
get_either : (t : List ℕ) (i n j : ℕ) → i < length t → get_or t i 0 + n < 2 ^ 64 → get_or (add_at t i n) j 0 ≡ get_or t j 0 + choose (eqb i j) n 0
get_either t i n j h k =
    choose_holds (λ (c : ℕ). get_or (add_at t i n) j 0 ≡ get_or t j 0 + c) (eqb i j)
    (λ e. subst (λ (l : ℕ). get_or (add_at t i n) l 0 ≡ get_or t l 0 + n) (eqb-true i j e) (get_same t i n h k))
    (λ e. get_other t i n j (λ q. eqb-false i j e (sym q)) ∙ omega arith)

-- two places as far on
shifted : (m i j n : ℕ) → choose (eqb (m + i) (m + j)) n 0 ≡ choose (eqb i j) n 0
shifted m i j n =
    choose_holds (λ (c : ℕ). choose (eqb (m + i) (m + j)) n 0 ≡ c) (eqb i j)
    (λ e. rw (eq-eqb (m + i) (m + j) (ap (λ (k : ℕ). m + k) (eqb-true i j e))))
    (λ e. rw (ne_eqb (m + i) (m + j) (λ q. eqb-false i j e (omega arith))))

-- ---- one frame more

module _ {t₀ : List ℕ} (s : Summed t₀) where
  module _ (t : List ℕ) (fs : List Frame) (f : Frame) (x : Exact t₀ t fs) (long : tally_size ≤ length t) (k : f.packet_type < 256)
      (few : get_or t₀ frame_total 0 + length fs + 1 < 2 ^ 64) (size : get_or t₀ byte_total 0 + sizes fs + size_of f < 2 ^ 64) where
    t₁ : List ℕ
    t₁ = add_at t f.packet_type 1

    t₂ : List ℕ
    t₂ = add_at t₁ (bytes_from + f.packet_type) (size_of f)

    t₃ : List ℕ
    t₃ = add_at t₂ frame_total 1

    long₁ : tally_size ≤ length t₁
    unfolding t₁
    long₁ = rw length_add_at long

    long₂ : tally_size ≤ length t₂
    unfolding t₂
    long₂ = rw length_add_at long₁

    long₃ : tally_size ≤ length t₃
    unfolding t₃
    long₃ = rw length_add_at long₂

    exact_one : Exact t₀ (with_frame t f.packet_type (size_of f)) (fs ++ (f ∷ []))
    unfolding with_frame at_type t₁ t₂ t₃ frames_of bytes_of sizes
    exact_one =
        let q = f.packet_type in
        let a : get_or t q 0 + 1 < 2 ^ 64 = omega (arith, x.frames q k, frames_most q fs, frames_below t₀ s q k) in
        let same : get_or t₁ (bytes_from + q) 0 ≡ get_or t (bytes_from + q) 0 = get_other t q 1 (bytes_from + q) (λ e. omega arith) in
        let b : get_or t₁ (bytes_from + q) 0 + size_of f < 2 ^ 64 = omega (arith, same, x.bytes q k, bytes_most q fs, bytes_below t₀ s q k) in
        let at₂ : (j : ℕ) → 512 ≤ j → get_or t₂ j 0 ≡ get_or t j 0 = λ j h. get_other t₁ (bytes_from + q) (size_of f) j (λ e. omega arith) ∙ get_other t q 1 j (λ e. omega arith) in
        let last : get_or t₃ byte_total 0 ≡ get_or t byte_total 0 = get_other t₂ frame_total 1 byte_total (λ e. omega arith) ∙ at₂ byte_total (omega arith) in
        let low : (j : ℕ) → j < 512 → get_or (add_at t₃ byte_total (size_of f)) j 0 ≡ get_or t₂ j 0 = λ j h. get_other t₃ byte_total (size_of f) j (λ e. omega arith) ∙ get_other t₂ frame_total 1 j (λ e. omega arith) in
        record {
          frames = λ j h.
              low j (omega arith) ∙ get_other t₁ (bytes_from + q) (size_of f) j (λ e. omega arith) ∙ get_either t q 1 j (omega arith) a
              ∙ omega (arith, x.frames j h, frames_append j fs (f ∷ []));
          bytes = λ j h.
              low (bytes_from + j) (omega arith) ∙ get_either t₁ (bytes_from + q) (size_of f) (bytes_from + j) (omega (arith, long₁)) b
              ∙ omega (arith, shifted bytes_from q j (size_of f), get_other t q 1 (bytes_from + j) (λ e. omega arith), x.bytes j h, bytes_append j fs (f ∷ []));
          frame_total_is = get_other t₃ byte_total (size_of f) frame_total (λ e. omega arith) ∙ get_same t₂ frame_total 1 (omega (arith, long₂)) (omega (arith, at₂ frame_total (omega arith), x.frame_total_is)) ∙ omega (arith, at₂ frame_total (omega arith), x.frame_total_is, length-append fs (f ∷ []));
          byte_total_is = get_same t₃ byte_total (size_of f) (omega (arith, long₃)) (omega (arith, last, x.byte_total_is)) ∙ omega (arith, last, x.byte_total_is, sizes_append fs (f ∷ []));
        }

  pub exact_more : (gs : List Frame) (t : List ℕ) (fs : List Frame) → Exact t₀ t fs → tally_size ≤ length t → All WellFormed gs
      → get_or t₀ frame_total 0 + length fs + length gs < 2 ^ 64 → get_or t₀ byte_total 0 + sizes fs + sizes gs < 2 ^ 64 → Exact t₀ (recount t gs) (fs ++ gs)
  unfolding recount sizes
  exact_more [] t fs x long a few size = rw append-nil x
  exact_more (f ∷ gs) t fs x long a few size =
      let one = exact_one t fs f x long a.0.type_byte (omega arith) (omega arith) in
      let m = length-append fs (f ∷ []) in
      let l = sizes_append fs (f ∷ []) in
      rw append_assoc at (exact_more gs (with_frame t f.packet_type (size_of f)) (fs ++ (f ∷ [])) one (rw length_with_frame long) a.1 (omega arith) (omega arith))

  -- ---- the sums

  pub exact_summed : {t : List ℕ} {fs : List Frame} → Exact t₀ t fs → All WellFormed fs → Summed t
  exact_summed {t} {fs} x a =
      let n : sum (frame_counts t) ≡ up_to 256 (λ k. get_or t₀ k 0) + length fs =
      sum_places t 256 ∙ up_same 256 (λ k. get_or t k 0) (λ k. get_or t₀ k 0 + frames_of k fs) x.frames
      ∙ up_add 256 (λ k. get_or t₀ k 0) (λ k. frames_of k fs) ∙ ap (λ (m : ℕ). up_to 256 (λ k. get_or t₀ k 0) + m) (all_frames fs a) in
      let b : sum (byte_counts t) ≡ up_to 256 (λ k. get_or (drop bytes_from t₀) k 0) + sizes fs =
      sum_places (drop bytes_from t) 256
      ∙ up_same 256 (λ k. get_or (drop bytes_from t) k 0) (λ k. get_or (drop bytes_from t₀) k 0 + bytes_of k fs)
      (λ k h. get_or-drop bytes_from t k 0 ∙ x.bytes k h ∙ ap (λ (m : ℕ). m + bytes_of k fs) (sym (get_or-drop bytes_from t₀ k 0)))
      ∙ up_add 256 (λ k. get_or (drop bytes_from t₀) k 0) (λ k. bytes_of k fs) ∙ ap (λ (m : ℕ). up_to 256 (λ k. get_or (drop bytes_from t₀) k 0) + m) (all_sizes fs a) in
      record {
        frames = omega (arith, n, x.frame_total_is, s.frames, sum_places t₀ 256);
        bytes = omega (arith, b, x.byte_total_is, s.bytes, sum_places (drop bytes_from t₀) 256);
      }
