-- Totals that are added once are those added frame by frame. Assumes nothing.
use Prim.Native.Nat.{ℕ, ◌+◌, ◌≤◌, ◌<◌, ◌^◌}
use native.Mathlib.Omega.{arith}
use mathlib.Core.Path.{◌≡◌, refl, sym, ap, ap₂, ◌∙◌}
use mathlib.Core.List.{List, [], ◌∷◌}
use lib.ListN.{length, get_or, length-append}
use Rattle.hns_encoding.specs.Format.{All}
use Rattle.hns_p2p_frame.specs.declared.NetworkMagic.{NetworkMagic}
use Rattle.hns_p2p_frame.specs.Frame.{Frame, WellFormed, encoding, encodings}
use Rattle.hns_p2p_frame.proofs.Walks.{length_encoding}
use Rattle.hns_p2p_tally.specs.Tally.{tally_size, bytes_from, frame_total, byte_total, size_of, add_at, at_type, with_frame, recount}
use Rattle.hns_p2p_tally.specs.Helpers.{by_type, with_totals}
use Rattle.hns_p2p_tally.proofs.Adds.{length_add_at, length_at_type, add_none, add_twice, add_swap}

-- the bytes of all
unfoldable pub sizes : List Frame → ℕ
sizes [] = 0
sizes (f ∷ fs) = size_of f + sizes fs

pub sizes_are : (net : NetworkMagic) (fs : List Frame) → length (encodings net fs) ≡ sizes fs
unfolding sizes encodings
sizes_are net [] = refl
sizes_are net (f ∷ fs) = omega (arith, length-append (encoding net f) (encodings net fs), length_encoding net f, sizes_are net fs)

-- a place that is no type's
type_swap : (i m : ℕ) → 512 ≤ i → (t : List ℕ) (k n : ℕ) → k < 256 → at_type (add_at t i m) k n ≡ add_at (at_type t k n) i m
unfolding at_type
type_swap i m h t k n l =
    ap (λ (u : List ℕ). add_at u (bytes_from + k) n) (add_swap t i k m 1 (λ e. omega arith))
    ∙ add_swap (add_at t k 1) i (bytes_from + k) m n (λ e. omega arith)

totals_swap : (t : List ℕ) (m b k n : ℕ) → k < 256 → at_type (with_totals t m b) k n ≡ with_totals (at_type t k n) m b
totals_swap t m b k n l =
    type_swap byte_total b (omega arith) (add_at t frame_total m) k n l
    ∙ ap (λ (u : List ℕ). add_at u byte_total b) (type_swap frame_total m (omega arith) t k n l)

-- what two additions leave
pub totals_put : {u t t₁ t₂ : List ℕ} {n m b c : ℕ} → t ≡ u → t₁ ≡ add_at t frame_total n → n ≡ m → t₂ ≡ add_at t₁ byte_total b → b ≡ c → t₂ ≡ with_totals u m c
totals_put e p i q j = q ∙ ap₂ (λ (v : List ℕ) (k : ℕ). add_at v byte_total k) (p ∙ ap₂ (λ (v : List ℕ) (k : ℕ). add_at v frame_total k) e i) j

totals_twice : (t : List ℕ) (m b n c : ℕ) → tally_size ≤ length t → with_totals (with_totals t m b) n c ≡ with_totals t (m + n) (b + c)
totals_twice t m b n c h =
    let u = add_at t frame_total m in
    ap (λ (v : List ℕ). add_at v byte_total c) (add_swap u byte_total frame_total b n (λ e. omega arith))
    ∙ add_twice (add_at u frame_total n) byte_total b c (omega (arith, length_add_at u frame_total n, length_add_at t frame_total m))
    ∙ ap (λ (v : List ℕ). add_at v byte_total (b + c)) (add_twice t frame_total m n (omega arith))

totals_none : (t : List ℕ) → get_or t frame_total 0 < 2 ^ 64 → get_or t byte_total 0 < 2 ^ 64 → with_totals t 0 0 ≡ t
totals_none t a b =
    let e = add_none t frame_total a in
    add_none (add_at t frame_total 0) byte_total (rw e b) ∙ e

-- frame by frame, with totals n and b that are added last
frame_by_frame : (fs : List Frame) (t : List ℕ) → tally_size ≤ length t → All WellFormed fs → (n b : ℕ)
    → with_totals (by_type t fs) (n + length fs) (b + sizes fs) ≡ recount (with_totals t n b) fs
unfolding by_type recount with_frame sizes
frame_by_frame [] t h a n b = ap₂ (with_totals t) (omega arith) (omega arith)
frame_by_frame (f ∷ fs) t h a n b =
    let k = f.packet_type in
    let s = size_of f in
    let u = at_type t k s in
    let long : tally_size ≤ length u = omega (arith, length_at_type t k s) in
    ap₂ (with_totals (by_type u fs)) (omega arith) (omega arith)
    ∙ frame_by_frame fs u long a.1 (n + 1) (b + s)
    ∙ ap (λ (v : List ℕ). recount v fs) (sym (totals_twice u n b 1 s long) ∙ ap (λ (v : List ℕ). with_totals v 1 s) (sym (totals_swap t n b k s a.0.type_byte)))

pub totals_once : (fs : List Frame) (t : List ℕ) → tally_size ≤ length t → get_or t frame_total 0 < 2 ^ 64 → get_or t byte_total 0 < 2 ^ 64 → All WellFormed fs
    → with_totals (by_type t fs) (length fs) (sizes fs) ≡ recount t fs
totals_once fs t h k l a =
    ap₂ (with_totals (by_type t fs)) (omega arith) (omega arith) ∙ frame_by_frame fs t h a 0 0 ∙ ap (λ (u : List ℕ). recount u fs) (totals_none t k l)
