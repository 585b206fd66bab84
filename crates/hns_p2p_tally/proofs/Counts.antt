-- One turn of the loop that counts whole frames by their types, on plain lists. Assumes nothing.
use Prim.Native.Nat.{ℕ, ◌+◌, ◌≤◌, ◌<◌, zero-le}
use native.Mathlib.Omega.{arith}
use mathlib.Core.Path.{◌≡◌, refl, sym, ap, ap₂, ◌∙◌}
use mathlib.Core.List.{List, [], ◌∷◌}
use lib.ListN.{length, get_or, take, drop, length-drop, drop_of_length-le}
use lib.Seq.{drop-drop, get_or-drop}
use Rattle.hns_refusals.specs.Limits.{header_size}
use Rattle.hns_encoding.specs.Bytes.{le, number_at, part}
use Rattle.hns_encoding.proofs.Numbers.{part_length}
use Rattle.hns_encoding.proofs.Reading.{number_there}
use Rattle.hns_p2p_frame.specs.declared.NetworkMagic.{NetworkMagic}
use Rattle.hns_p2p_frame.specs.Frame.{Frame, Front, not_yet, whole, bad, payload_length, front}
use Rattle.hns_p2p_frame.specs.Conditions.{FrontIs, few, full}
use Rattle.hns_p2p_frame.specs.Walk.{Cutting, before, cut}
use Rattle.hns_p2p_frame.proofs.Fronts.{seen, front_is}
use Rattle.hns_p2p_frame.proofs.Walks.{cut_open, cut_bad, cut_frame}
use Rattle.hns_p2p_tally.specs.Tally.{at_type}
use Rattle.hns_p2p_tally.specs.Helpers.{Whole, SomeWhole, by_type}
use Rattle.hns_p2p_tally.proofs.Adds.{length_at_type}

-- the frames of s as far as the place p are counted on top of t₀: that is t
pub record CountedTo (net : NetworkMagic) (s t₀ t : List ℕ) (p : ℕ) : Type 0 where
  pub rest : Whole net (drop p s)
  pub goes : by_type t₀ (cut net s).frames ≡ by_type t (cut net (drop p s)).frames

-- on whichever network s is whole frames
pub record Counting (s t₀ t : List ℕ) (p : ℕ) : Type 0 where
  pub some : SomeWhole s
  pub inside : p ≤ length s
  pub same_length : length t ≡ length t₀
  pub counted : (net : NetworkMagic) → Whole net s → CountedTo net s t₀ t p

pub count_start : {s : List ℕ} (t : List ℕ) → SomeWhole s → Counting s t t 0
count_start t w = record { some = w; inside = zero-le; same_length = refl; counted = λ net e. record { rest = e; goes = refl } }

-- what the bytes xs, which are not all counted yet, begin with: a frame of type k and of n bytes
record Next (net : NetworkMagic) (xs : List ℕ) (k n : ℕ) : Type 0 where
  there : n ≤ length xs
  rest : (cut net xs).rest ≡ (cut net (drop n xs)).rest
  goes : (t : List ℕ) → by_type t (cut net xs).frames ≡ by_type (at_type t k n) (cut net (drop n xs)).frames

next_is : (net : NetworkMagic) (xs : List ℕ) → Whole net xs → 0 < length xs → (9 ≤ length xs) × Next net xs (get_or xs 4 0) (9 + payload_length xs)
unfolding by_type
next_is net xs w h = go (front net xs) refl
  where
    nothing : {y : Cutting} → cut net xs ≡ y → y.rest ≡ xs → {A : Type 0} → A
    nothing e q = absurd (let l : length xs ≡ 0 = ap length (sym q ∙ ap (λ (c : Cutting). c.rest) (sym e) ∙ w) in let f : ⊥ = omega arith in f)

    step : {f : Frame} {rest : List ℕ} → FrontIs net xs (whole f rest) → cut net xs ≡ before (f ∷ []) (cut net rest) → (9 ≤ length xs) × Next net xs (get_or xs 4 0) (9 + payload_length xs)
    step (full a b c d) e =
        let size : length (part xs header_size (payload_length xs)) ≡ payload_length xs = part_length xs 9 (payload_length xs) (omega arith) in
        let r = drop (header_size + payload_length xs) xs in (
          a,
          record {
            there = d;
            rest = ap (λ (y : Cutting). y.rest) e;
            goes = λ t.
                ap (λ (y : Cutting). by_type t y.frames) e
                ∙ ap (λ (n : ℕ). by_type (at_type t (get_or xs 4 0) (9 + n)) (cut net r).frames) size;
          },
        )

    go : (g : Front) → front net xs ≡ g → (9 ≤ length xs) × Next net xs (get_or xs 4 0) (9 + payload_length xs)
    go not_yet e = nothing (cut_open net xs e) refl
    go (bad r) e = nothing (cut_bad net xs r e) refl
    go (whole f rest) e = step (rw e at (seen net xs)) (cut_frame net xs f rest e)

module _ {s t₀ t : List ℕ} {p : ℕ} (w : Counting s t₀ t p) where
  -- at the end nothing is left
  pub count_ends : length s ≤ p → (net : NetworkMagic) → Whole net s → t ≡ by_type t₀ (cut net s).frames
  unfolding by_type
  count_ends h net e =
      let c = w.counted net e in
      let none : drop p s ≡ [] = drop_of_length-le s {i = p} h in
      sym (c.goes ∙ ap (λ (l : List ℕ). by_type t (cut net l).frames) none ∙ rw (cut_open net [] (front_is (few (omega arith)))))

  module _ (h : p < length s) where
    next : (net : NetworkMagic) → Whole net s → (9 ≤ length (drop p s)) × Next net (drop p s) (get_or (drop p s) 4 0) (9 + payload_length (drop p s))
    next net e = next_is net (drop p s) (w.counted net e).rest (omega (arith, length-drop p s))

    pub header_there : p + 9 ≤ length s
    header_there = omega (arith, (next w.some.0 w.some.1).0, length-drop p s)

    -- v is the number that was read at the length's place
    module _ {v : ℕ} (q : v ≡ number_at 4 s (p + 5)) where
      says : payload_length (drop p s) ≡ v
      unfolding payload_length
      says = sym (q ∙ number_there 4 s (p + 5) (omega (arith, header_there)) ∙ ap (λ (l : List ℕ). le (take 4 l)) (sym (drop-drop 5 p s)))

      pub payload_there : p + (9 + v) ≤ length s
      payload_there = omega (arith, (next w.some.0 w.some.1).1.there, says, length-drop p s)

      -- t' is the tally with the frame of n bytes
      pub count_goes : {n : ℕ} → n ≡ 9 + v → {t' : List ℕ} → t' ≡ at_type t (get_or s (p + 4) 0) n → Counting s t₀ t' (p + (9 + v))
      count_goes j {t'} i₀ =
          let i : t' ≡ at_type t (get_or s (p + 4) 0) (9 + v) = i₀ ∙ ap (at_type t (get_or s (p + 4) 0)) j in
          record {
            some = w.some;
            inside = payload_there;
            same_length = ap length i ∙ length_at_type t (get_or s (p + 4) 0) (9 + v) ∙ w.same_length;
            counted = λ net e.
                let n = (next net e).1 in
                let c = w.counted net e in
                let d : drop (9 + payload_length (drop p s)) (drop p s) ≡ drop (p + (9 + v)) s = ap (λ (m : ℕ). drop (9 + m) (drop p s)) says ∙ drop-drop (9 + v) p s in
                let u : at_type t (get_or (drop p s) 4 0) (9 + payload_length (drop p s)) ≡ t' = ap₂ (λ (k m : ℕ). at_type t k (9 + m)) (get_or-drop p s 4 0) says ∙ sym i in
                record {
                  rest = ap (λ (l : List ℕ). (cut net l).rest) (sym d) ∙ sym n.rest ∙ c.rest;
                  goes = c.goes ∙ n.goes t ∙ ap₂ (λ (x l : List ℕ). by_type x (cut net l).frames) u d;
                };
          }
