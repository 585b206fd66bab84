-- Laws of the walk over all frames of a list: its equation, an induction over its frames, and what follows by it. Assumes nothing.
use Prim.Native.Nat.{ℕ, zero, suc, ◌+◌, ◌≤◌}
use mathlib.Core.Path.{◌≡◌, refl, sym, ap, ◌∙◌}
use mathlib.Core.List.{List, [], ◌∷◌, ◌++◌, append_assoc}
use native.Mathlib.Omega.{arith}
use native.Mathlib.Nat.{le_refl}
use lib.ListN.{length, length-append}
use Rattle.hns_refusals.specs.declared.Refusal.{Refusal}
use Rattle.hns_encoding.specs.Bytes.{Bytes, le_bytes}
use Rattle.hns_encoding.specs.Format.{All}
use Rattle.hns_p2p_frame.specs.declared.NetworkMagic.{NetworkMagic}
use Rattle.hns_p2p_frame.specs.Frame.{Frame, WellFormed, encoding, encodings, Front, not_yet, whole, bad, front}
use Rattle.hns_p2p_frame.specs.Conditions.{few}
use Rattle.hns_p2p_frame.specs.Walk.{Walked, stopped, refused, Why, unfinished, bad_header, ended, before, onwards, cut_up_to, cut, walked_for, walk}
use Rattle.hns_p2p_frame.proofs.Fronts.{front_is, front_cut, front_shorter, length_magic}

-- a frame before those of a walk
unfoldable pub also : Frame → Walked → Walked
also f (stopped fs rest) = stopped (f ∷ fs) rest
also f (refused r) = refused r

-- the walk of xs by what they begin with
unfoldable pub onward : Front → List ℕ → (List ℕ → Walked) → Walked
onward not_yet xs go = stopped [] xs
onward (whole f rest) xs go = also f (go rest)
onward (bad r) xs go = refused r

module _ (net : NetworkMagic) where
  -- induction over the whole frames that a list begins with
  pub by_front {ℓ} : (P : List ℕ → Type ℓ)
      → ((xs : List ℕ) → front net xs ≡ not_yet → P xs)
      → ((xs : List ℕ) (r : Refusal) → front net xs ≡ bad r → P xs)
      → ((xs : List ℕ) (f : Frame) (rest : List ℕ) → front net xs ≡ whole f rest → P rest → P xs)
      → (xs : List ℕ) → P xs
  by_front P p q s xs = up_to (length xs) xs (le_refl (length xs))
    where
      turn : (n : ℕ) (ys : List ℕ) → length ys ≤ suc n → ((zs : List ℕ) → length zs ≤ n → P zs) → (g : Front) → front net ys ≡ g → P ys
      turn n ys h ih not_yet e = p ys e
      turn n ys h ih (whole f rest) e = s ys f rest e (ih rest (omega (arith, front_shorter net ys f rest e)))
      turn n ys h ih (bad r) e = q ys r e

      up_to : (n : ℕ) (ys : List ℕ) → length ys ≤ n → P ys
      up_to zero ys h = p ys (front_is (few (omega arith)))
      up_to (suc n) ys h = turn n ys h (λ zs k. up_to n zs k) (front net ys) refl

  -- more turns than bytes change nothing
  cut_fuel : (xs : List ℕ) (m n : ℕ) → length xs ≤ m → length xs ≤ n → cut_up_to m net xs ≡ cut_up_to n net xs
  unfolding cut_up_to onwards
  cut_fuel =
      by_front (λ (xs : List ℕ). (m n : ℕ) → length xs ≤ m → length xs ≤ n → cut_up_to m net xs ≡ cut_up_to n net xs)
      (λ xs e m n h k. open_end xs e m ∙ sym (open_end xs e n))
      (λ xs r e m n h k. bad_end xs r e m h ∙ sym (bad_end xs r e n k))
      step
    where
      open_end : (xs : List ℕ) → front net xs ≡ not_yet → (m : ℕ) → cut_up_to m net xs ≡ ended xs unfinished
      open_end xs e zero = refl
      open_end xs e (suc m) = rw e

      bad_end : (xs : List ℕ) (r : Refusal) → front net xs ≡ bad r → (m : ℕ) → length xs ≤ m → cut_up_to m net xs ≡ ended xs (bad_header r)
      bad_end xs r e zero h = cc (front_is {net = net} {xs = xs} (few (omega arith)))
      bad_end xs r e (suc m) h = rw e

      step : (xs : List ℕ) (f : Frame) (rest : List ℕ) → front net xs ≡ whole f rest
          → ((m n : ℕ) → length rest ≤ m → length rest ≤ n → cut_up_to m net rest ≡ cut_up_to n net rest)
          → (m n : ℕ) → length xs ≤ m → length xs ≤ n → cut_up_to m net xs ≡ cut_up_to n net xs
      step xs f rest e ih zero n h k = cc (front_is {net = net} {xs = xs} (few (omega arith)))
      step xs f rest e ih (suc m) zero h k = cc (front_is {net = net} {xs = xs} (few (omega arith)))
      step xs f rest e ih (suc m) (suc n) h k =
          let l = front_shorter net xs f rest e in
          rw e (ap (before (f ∷ [])) (ih m n (omega arith) (omega arith)))

  -- one turn, by what the bytes begin with
  pub cut_open : (xs : List ℕ) → front net xs ≡ not_yet → cut net xs ≡ ended xs unfinished
  unfolding cut cut_up_to onwards
  cut_open xs e = cut_fuel xs (length xs) (suc (length xs)) (le_refl (length xs)) (omega arith) ∙ rw e

  pub cut_bad : (xs : List ℕ) (r : Refusal) → front net xs ≡ bad r → cut net xs ≡ ended xs (bad_header r)
  unfolding cut cut_up_to onwards
  cut_bad xs r e = cut_fuel xs (length xs) (suc (length xs)) (le_refl (length xs)) (omega arith) ∙ rw e

  pub cut_frame : (xs : List ℕ) (f : Frame) (rest : List ℕ) → front net xs ≡ whole f rest → cut net xs ≡ before (f ∷ []) (cut net rest)
  unfolding cut cut_up_to onwards
  cut_frame xs f rest e =
      let l = front_shorter net xs f rest e in
      cut_fuel xs (length xs) (suc (length xs)) (le_refl (length xs)) (omega arith)
      ∙ rw e (ap (before (f ∷ [])) (cut_fuel rest (length xs) (length rest) (omega arith) (le_refl (length rest))))

  -- one turn
  pub walk_turn : (xs : List ℕ) → walk net xs ≡ onward (front net xs) xs (walk net)
  unfolding walk walked_for onward also
  walk_turn xs = go (front net xs) refl
    where
      also_is : (f : Frame) (y : Why) (fs : List Frame) (rest : List ℕ) → walked_for y (f ∷ fs) rest ≡ also f (walked_for y fs rest)
      also_is f unfinished fs rest = refl
      also_is f (bad_header r) fs rest = refl

      go : (g : Front) → front net xs ≡ g → walk net xs ≡ onward g xs (walk net)
      go not_yet e = rw (cut_open xs e)
      go (whole f rest) e = rw (cut_frame xs f rest e) (also_is f (cut net rest).why (cut net rest).frames (cut net rest).rest)
      go (bad r) e = rw (cut_bad xs r e)

  -- induction over the frames of a walk
  pub by_walk {ℓ} : (P : List ℕ → Walked → Type ℓ)
      → ((xs : List ℕ) → front net xs ≡ not_yet → P xs (stopped [] xs))
      → ((xs : List ℕ) (r : Refusal) → front net xs ≡ bad r → P xs (refused r))
      → ((xs : List ℕ) (f : Frame) (rest : List ℕ) (w : Walked) → front net xs ≡ whole f rest → P rest w → P xs (also f w))
      → (xs : List ℕ) → P xs (walk net xs)
  unfolding onward
  by_walk P p q s =
      by_front (λ (xs : List ℕ). P xs (walk net xs))
      (λ xs e. rw (walk_turn xs, e) (p xs e))
      (λ xs r e. rw (walk_turn xs, e) (q xs r e))
      (λ xs f rest e ih. rw (walk_turn xs, e) (s xs f rest (walk net rest) e ih))

  -- of bytes, the frames' encodings and what follows them are the list
  abbrev pub WalkCut : List ℕ → Walked → Type 0
  WalkCut xs (stopped fs rest) = (encodings net fs ++ rest ≡ xs) × All WellFormed fs
  WalkCut xs (refused r) = Unit {0}

  pub walk_cut : (xs : List ℕ) → Bytes xs → WalkCut xs (walk net xs)
  unfolding encodings also
  walk_cut =
      by_walk (λ (xs : List ℕ) (w : Walked). Bytes xs → WalkCut xs w)
      (λ xs e h. (refl, tt))
      (λ xs r e h. tt)
      (λ xs f rest w e ih h. let k = front_cut net xs h f rest e in go xs f rest w k.all k.well_formed (ih k.rest_bytes))
    where
      go : (xs : List ℕ) (f : Frame) (rest : List ℕ) (w : Walked) → encoding net f ++ rest ≡ xs → WellFormed f → WalkCut rest w → WalkCut xs (also f w)
      go xs f rest (stopped fs end) a b c = (rw (append_assoc, c.0) a, (b, c.1))
      go xs f rest (refused r) a b c = tt

  pub length_encoding : (f : Frame) → length (encoding net f) ≡ 9 + length f.payload
  unfolding encoding le_bytes
  length_encoding f = simp (length-append, length_magic) (omega arith)
