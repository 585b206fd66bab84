-- Where a walk ends: few bytes that begin with no frame, or a bad header, whose refusal is 4 or 5. Assumes nothing.
use Prim.Native.Nat.{ℕ, ◌≤◌}
use mathlib.Core.Path.{◌≡◌}
use mathlib.Core.List.{List}
use native.Mathlib.Omega.{arith}
use lib.ListN.{length}
use lib.Dec.{T}
use Rattle.hns_refusals.specs.declared.Refusal.{Refusal}
use Rattle.hns_p2p_frame.specs.declared.NetworkMagic.{NetworkMagic}
use Rattle.hns_p2p_frame.specs.Frame.{Frame, not_yet, bad, front}
use Rattle.hns_p2p_frame.specs.Conditions.{FrontIs, few, wrong, long, begun}
use Rattle.hns_p2p_frame.specs.Walk.{Walked, stopped, refused, walk}
use Rattle.hns_p2p_frame.proofs.Fronts.{seen}
use Rattle.hns_p2p_frame.proofs.Walks.{also, by_walk}
use Rattle.hns_p2p_stream.specs.Stream.{for_header, BeginsWithFrame, most_held}

-- a bad header's refusal is 4 or 5
pub front_code : (net : NetworkMagic) (xs : List ℕ) (r : Refusal) → front net xs ≡ bad r → T (for_header r)
unfolding for_header
front_code net xs r e = go (rw e at (seen net xs))
  where
    go : {q : Refusal} → FrontIs net xs (bad q) → T (for_header q)
    go (wrong a b) = tt
    go (long a b c) = tt

-- where there is not yet a frame, there are few bytes, and no frame begins
pub front_few_held : (net : NetworkMagic) (xs : List ℕ) → front net xs ≡ not_yet → length xs ≤ most_held
front_few_held net xs e = go (rw e at (seen net xs))
  where
    go : FrontIs net xs not_yet → length xs ≤ most_held
    go (few a) = omega arith
    go (begun a b c d) = omega arith

pub front_none : (net : NetworkMagic) (xs : List ℕ) → front net xs ≡ not_yet → ¬ BeginsWithFrame net xs
front_none net xs e = go (rw e at (seen net xs))
  where
    go : FrontIs net xs not_yet → ¬ BeginsWithFrame net xs
    go (few a) f = omega (arith, f.header)
    go (begun a b c d) f = omega (arith, f.payload_there)

module _ (net : NetworkMagic) where
  -- the walk stops where no whole frame and no bad header stands, and a refusal is one for a header
  abbrev pub Ended : Walked → Type 0
  Ended (stopped fs rest) = front net rest ≡ not_yet
  Ended (refused r) = T (for_header r)

  pub walk_ended : (xs : List ℕ) → Ended (walk net xs)
  unfolding also
  walk_ended =
      by_walk net (λ (xs : List ℕ) (w : Walked). Ended w)
      (λ xs e. e)
      (λ xs r e. front_code net xs r e)
      (λ xs f rest w e ih. go f w ih)
    where
      go : (f : Frame) (w : Walked) → Ended w → Ended (also f w)
      go f (stopped fs rest) a = a
      go f (refused r) a = a
