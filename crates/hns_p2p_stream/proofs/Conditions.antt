-- The cases of a push, both ways, and which refusals it can give. Assumes nothing.
use Prim.Native.Nat.{ℕ, ◌+◌}
use mathlib.Core.Path.{◌≡◌, refl, sym, ◌∙◌}
use mathlib.Core.List.{List, [], ◌++◌, append_assoc, append-nil}
use mathlib.Core.Logic.{◌⊎◌, inl, inr}
use native.Mathlib.Omega.{arith}
use lib.ListN.{length, take}
use Rattle.hns_refusals.specs.declared.Refusal.{Refusal}
use Rattle.hns_refusals.specs.Refusals.{number}
use Rattle.hns_encoding.specs.Bytes.{Bytes}
use Rattle.hns_encoding.specs.Format.{All}
use Rattle.hns_encoding.specs.Put.{splice}
use Rattle.hns_encoding.proofs.Numbers.{bytes_append}
use Rattle.hns_encoding.proofs.Puts.{splice_fits}
use Rattle.hns_p2p_frame.specs.declared.NetworkMagic.{NetworkMagic}
use Rattle.hns_p2p_frame.specs.Pushed.{Refused}
use Rattle.hns_p2p_frame.specs.Frame.{Frame, WellFormed, encodings, Front, not_yet, bad, front}
use Rattle.hns_p2p_frame.specs.Conditions.{FrontIs}
use Rattle.hns_p2p_frame.specs.Walk.{Why, unfinished, bad_header, Cutting, cut, walked_for, walk}
use Rattle.hns_p2p_frame.specs.Push.{Result, turned_away, settled, push}
use Rattle.hns_p2p_frame.proofs.Exacts.{refusals_are}
use Rattle.hns_p2p_frame.proofs.Fronts.{seen, front_is, front_cut}
use Rattle.hns_p2p_frame.proofs.Tests.{PushTested, over, large, unstored, no_room, fits, tested, push_is}
use Rattle.hns_p2p_frame.proofs.Walks.{onward, walk_turn, by_front, cut_open, cut_bad, cut_frame}
use Rattle.hns_p2p_stream.specs.Conditions.{Fits, Cuts, PushIs, if_held_over, stream_over, if_store_short, if_output_short, if_bad_header, accepted, PushExactly, Untouched, Appended, PushRefusals}
use Rattle.hns_p2p_stream.proofs.Encodings.{walk_encodings, also_stopped, also_refused}

-- ---- where a walk of bytes ends

-- what the rest begins with
abbrev end_of : Why → Front
end_of unfinished = not_yet
end_of (bad_header r) = bad r

module _ (net : NetworkMagic) where
  -- a cutting of xs into frames that the writer accepts, and a rest that begins as the reason says
  record CutAs (xs : List ℕ) (c : Cutting) : Type 0 where
    all : encodings net c.frames ++ c.rest ≡ xs
    well_formed : All WellFormed c.frames
    end : front net c.rest ≡ end_of c.why

  cut_as : (xs : List ℕ) → Bytes xs → CutAs xs (cut net xs)
  unfolding encodings
  cut_as =
      by_front net (λ (xs : List ℕ). Bytes xs → CutAs xs (cut net xs))
      (λ xs e b. rw (cut_open net xs e) (record { all = refl; well_formed = tt; end = e }))
      (λ xs r e b. rw (cut_bad net xs r e) (record { all = refl; well_formed = tt; end = e }))
      (λ xs f rest e ih b.
      let k = front_cut net xs b f rest e in
      let c = ih k.rest_bytes in
      rw (cut_frame net xs f rest e) (record { all = rw (append_assoc, c.all) k.all; well_formed = (k.well_formed, c.well_formed); end = c.end }))

  -- the other way: frames and then such a rest walk so
  walk_as : (fs : List Frame) (rest : List ℕ) (y : Why) → All WellFormed fs → front net rest ≡ end_of y → walk net (encodings net fs ++ rest) ≡ walked_for y fs rest
  unfolding onward walked_for
  walk_as fs rest unfinished a e = walk_encodings net fs rest a ∙ rw (walk_turn net rest, e, also_stopped net fs [] rest, append-nil)
  walk_as fs rest (bad_header r) a e = walk_encodings net fs rest a ∙ rw (walk_turn net rest, e, also_refused net fs r)

-- ---- the cases of a push

same_refusal : {q r : Refusal} {n k : ℕ} → Refused q n ≡ Refused r k → q ≡ r
same_refusal e = cc

untouched : {s : List ℕ} {h : ℕ} {o : List ℕ} {q r : Refusal} {k : ℕ} → Refused q h ≡ Refused r k
    → (number q ≡ 6) ⊎ (number q ≡ 16) ⊎ (number q ≡ 17) ⊎ (number q ≡ 18) → Untouched s h o r k (turned_away q s h o)
untouched e n = record { number = rw (same_refusal e) at n; store = refl; output = refl; held = cc }

module _ (net : NetworkMagic) (s : List ℕ) (h : ℕ) (x o : List ℕ) where
  settles : Fits s h x o → Bytes (take h s ++ x) → PushIs net s h x o (settled net (walk net (take h s ++ x)) (splice s h x) (h + length x) o)
  unfolding walk walked_for settled
  settles f b =
      let c = cut net (take h s ++ x) in
      let k = cut_as net (take h s ++ x) b in
      go c.frames c.rest c.why (record { all = sym k.all; well_formed = k.well_formed }) (rw k.end at (seen net c.rest))
    where
      go : (fs : List Frame) (rest : List ℕ) (y : Why) → Cuts net s h x fs rest → FrontIs net rest (end_of y) → PushIs net s h x o (settled net (walked_for y fs rest) (splice s h x) (h + length x) o)
      go fs rest unfinished k e = accepted f fs rest k e
      go fs rest (bad_header r) k e = rw (splice_fits s h x (omega arith)) (if_bad_header f fs rest r k e)

  push_seen : Bytes (take h s) → Bytes x → PushIs net s h x o (push net s h x o)
  push_seen b d = go (tested net s h x o)
    where
      go : {p : Result} → PushTested net s h x o p → PushIs net s h x o p
      go (over a) = if_held_over a
      go (large a c) = stream_over a c
      go (unstored a c e) = if_store_short a c e
      go (no_room a c e f) = if_output_short a c e f
      go (fits a c e f) = settles (record { held = a; stream = c; store = e; output = f }) (bytes_append b d)

  -- the other way: a case's facts say which it is
  settled_is : Fits s h x o → (fs : List Frame) (rest : List ℕ) (y : Why) → Cuts net s h x fs rest → FrontIs net rest (end_of y)
      → push net s h x o ≡ settled net (walked_for y fs rest) (splice s h x) (h + length x) o
  settled_is f fs rest y c e = push_is net (fits f.held f.stream f.store f.output) ∙ rw (c.all, walk_as net fs rest y c.well_formed (front_is e))

  case_is : {p : Result} → PushIs net s h x o p → push net s h x o ≡ p
  unfolding walked_for settled
  case_is (if_held_over a) = push_is net (over a)
  case_is (stream_over a b) = push_is net (large a b)
  case_is (if_store_short a b c) = push_is net (unstored a b c)
  case_is (if_output_short a b c d) = push_is net (no_room a b c d)
  case_is (if_bad_header f fs rest r c e) = settled_is f fs rest (bad_header r) c e ∙ rw (splice_fits s h x (omega arith))
  case_is (accepted f fs rest c e) = settled_is f fs rest unfinished c e

  -- which refusals, and what each leaves
  refuses : {p : Result} (r : Refusal) (k : ℕ) → PushIs net s h x o p → p.answer ≡ Refused r k → Untouched s h o r k p ⊎ Appended s h x o r k p
  refuses r k (if_held_over a) e = inl (untouched e (inr (inr (inr refl))))
  refuses r k (stream_over a b) e = inl (untouched e (inl refl))
  refuses r k (if_store_short a b c) e = inl (untouched e (inr (inr (inl refl))))
  refuses r k (if_output_short a b c d) e = inl (untouched e (inr (inl refl)))
  refuses r k (if_bad_header f fs rest q c w) e = inr (record { number = rw (same_refusal e) at ((refusals_are net).of_front rest q (front_is w)); store = refl; output = refl; held = cc })
  refuses r k (accepted f fs rest c w) e = absurd (cc)

pub push_exactly : PushExactly
push_exactly net s h x o b d p = (λ e. rw e at (push_seen net s h x o b d), case_is net s h x o)

pub push_refusals : PushRefusals
push_refusals net s h x o b d r k = refuses net s h x o r k (push_seen net s h x o b d)
