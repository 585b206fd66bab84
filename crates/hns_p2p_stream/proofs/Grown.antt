-- More bytes behind: a frame at the front stays, and so does a bad header, also after frames. Assumes nothing.
use Prim.Native.Nat.{ℕ, ◌+◌, ◌≤◌}
use mathlib.Core.Path.{◌≡◌, ap, ◌∙◌}
use mathlib.Core.List.{List, ◌++◌}
use native.Mathlib.Omega.{arith}
use lib.ListN.{length, take, drop, length-append, length-drop, get_or-append}
use lib.Seq.{take-append-le, drop-append-le}
use Rattle.hns_encoding.specs.Bytes.{le}
use Rattle.hns_p2p_frame.specs.declared.NetworkMagic.{NetworkMagic}
use Rattle.hns_p2p_frame.specs.Frame.{Frame, Front, not_yet, whole, bad, payload_length, front}
use Rattle.hns_p2p_frame.specs.Conditions.{FrontIs, few, wrong, long, begun, full}
use Rattle.hns_p2p_frame.specs.Walk.{Walked, stopped, refused, walk}
use Rattle.hns_p2p_frame.proofs.Fronts.{seen, front_is}
use Rattle.hns_p2p_frame.proofs.Walks.{also, onward, walk_turn, by_walk}

pub length_more : (xs ys : List ℕ) → 9 ≤ length xs → payload_length (xs ++ ys) ≡ payload_length xs
unfolding payload_length
length_more xs ys h =
    let g : 4 ≤ length (drop 5 xs) = simp length-drop (omega arith) in
    let k : 5 ≤ length xs = omega arith in
    ap le (rw (drop-append-le, take-append-le))

-- what a front is once more bytes stand behind
abbrev pub Grown : List ℕ → Front → Front → Type 0
Grown ys not_yet g = Unit {0}
Grown ys (whole f rest) g = g ≡ whole f (rest ++ ys)
Grown ys (bad r) g = g ≡ bad r

pub front_more : (net : NetworkMagic) (xs ys : List ℕ) → Grown ys (front net xs) (front net (xs ++ ys))
front_more net xs ys = go (seen net xs)
  where
    t : 9 ≤ length xs → take 4 (xs ++ ys) ≡ take 4 xs
    t a = take-append-le 4 xs ys (omega arith)

    n : 9 ≤ length xs → 9 ≤ length (xs ++ ys)
    n a = simp length-append (omega arith)

    go : {f : Front} → FrontIs net xs f → Grown ys f (front net (xs ++ ys))
    go (few a) = tt
    go (begun a b c d) = tt
    go (wrong a b) = rw (front_is {net = net} {xs = xs ++ ys} (wrong (n a) (rw (t a) b)), t a)
    go (long a b c) = rw (front_is {net = net} {xs = xs ++ ys} (long (n a) (t a ∙ b) (rw length_more c)), length_more)
    go (full a b c d) =
        let u : 9 + payload_length xs ≤ length (xs ++ ys) = simp length-append (omega arith) in
        let v : payload_length xs ≤ length (drop 9 xs) = simp length-drop (omega arith) in
        rw (front_is {net = net} {xs = xs ++ ys} (full (n a) (t a ∙ b) (rw length_more c) (rw length_more u)), length_more, get_or-append xs ys 0 4 (omega arith), drop-append-le (9 + payload_length xs) xs ys d, drop-append-le 9 xs ys a, take-append-le (payload_length xs) (drop 9 xs) ys v)

module _ (net : NetworkMagic) where
  -- a walk that is refused is refused with more bytes behind
  abbrev pub StaysRefused : List ℕ → List ℕ → Walked → Type 0
  StaysRefused ys xs (stopped fs rest) = Unit {0}
  StaysRefused ys xs (refused r) = walk net (xs ++ ys) ≡ refused r

  pub walk_more : (ys xs : List ℕ) → StaysRefused ys xs (walk net xs)
  unfolding also onward
  walk_more ys =
      by_walk net (StaysRefused ys)
      (λ xs e. tt)
      (λ xs r e. rw (walk_turn net, grown xs (bad r) e))
      (λ xs f rest w e ih. go xs f rest w (grown xs (whole f rest) e) ih)
    where
      grown : (xs : List ℕ) (g : Front) → front net xs ≡ g → Grown ys g (front net (xs ++ ys))
      grown xs g e = rw e at (front_more net xs ys)

      go : (xs : List ℕ) (f : Frame) (rest : List ℕ) (w : Walked) → front net (xs ++ ys) ≡ whole f (rest ++ ys) → StaysRefused ys rest w → StaysRefused ys xs (also f w)
      go xs f rest (stopped fs end) a b = tt
      go xs f rest (refused r) a b = rw (walk_turn net, a, b)
