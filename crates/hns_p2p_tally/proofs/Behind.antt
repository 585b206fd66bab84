-- Numbers behind a tally, which no push changes, on plain lists. Assumes nothing.
use Prim.Native.Nat.{ℕ, ◌+◌, ◌≤◌, ◌<◌}
use native.Mathlib.Omega.{arith}
use mathlib.Core.Path.{◌≡◌, refl, ap, ◌∙◌}
use mathlib.Core.List.{List, [], ◌∷◌, ◌++◌}
use lib.ListN.{length, get_or, get_or-append}
use Rattle.std.proofs.lemmas.List.{set-append_left}
use Rattle.hns_encoding.specs.Format.{All}
use Rattle.hns_encoding.specs.Put.{advance}
use Rattle.hns_p2p_frame.specs.Frame.{Frame, WellFormed}
use Rattle.hns_p2p_tally.specs.Tally.{tally_size, bytes_from, frame_total, byte_total, size_of, add_at, at_type, with_frame, recount}
use Rattle.hns_p2p_tally.proofs.Adds.{length_add_at, length_at_type, length_with_frame}

module _ (b : List ℕ) where
  pub add_behind : (t : List ℕ) (i n : ℕ) → i < length t → add_at (t ++ b) i n ≡ add_at t i n ++ b
  unfolding add_at
  add_behind t i n h = rw (get_or-append t b 0 i h) (set-append_left t b i (advance (get_or t i 0) n) h)

  pub type_behind : (t : List ℕ) (k n : ℕ) → tally_size ≤ length t → k < 256 → at_type (t ++ b) k n ≡ at_type t k n ++ b
  unfolding at_type
  type_behind t k n h l =
      ap (λ (u : List ℕ). add_at u (bytes_from + k) n) (add_behind t k 1 (omega arith))
      ∙ add_behind (add_at t k 1) (bytes_from + k) n (omega (arith, length_add_at t k 1))

  frame_behind : (t : List ℕ) (k n : ℕ) → tally_size ≤ length t → k < 256 → with_frame (t ++ b) k n ≡ with_frame t k n ++ b
  unfolding with_frame
  frame_behind t k n h l =
      ap (λ (u : List ℕ). add_at (add_at u frame_total 1) byte_total n) (type_behind t k n h l)
      ∙ ap (λ (u : List ℕ). add_at u byte_total n) (add_behind (at_type t k n) frame_total 1 (omega (arith, length_at_type t k n)))
      ∙ add_behind (add_at (at_type t k n) frame_total 1) byte_total n (omega (arith, length_add_at (at_type t k n) frame_total 1, length_at_type t k n))

  pub recount_behind : (t : List ℕ) (fs : List Frame) → tally_size ≤ length t → All WellFormed fs → recount (t ++ b) fs ≡ recount t fs ++ b
  unfolding recount
  recount_behind t [] h a = refl
  recount_behind t (f ∷ fs) h a =
      ap (λ (u : List ℕ). recount u fs) (frame_behind t f.packet_type (size_of f) h a.0.type_byte)
      ∙ recount_behind (with_frame t f.packet_type (size_of f)) fs (omega (arith, length_with_frame t f.packet_type (size_of f))) a.1
