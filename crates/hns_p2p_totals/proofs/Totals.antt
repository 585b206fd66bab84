-- T-01: what `specs/Totals.antt` says of lists of tallying pushes holds of all. Assumes nothing.
use Prim.Native.Nat.{ℕ, zero, suc, ◌+◌}
use mathlib.Core.Path.{◌≡◌, refl, sym, ap, ◌∙◌, subst}
use mathlib.Core.List.{List, [], ◌∷◌, ◌++◌, append_assoc, append-nil}
use native.Mathlib.Omega.{arith}
use lib.ListN.{length, get_or, take, drop, replicate, length-append}
use lib.Seq.{length-take-le, get_or-drop}
use Rattle.hns_refusals.specs.declared.Refusal.{Refusal}
use Rattle.hns_encoding.specs.Bytes.{Bytes}
use Rattle.hns_encoding.specs.Put.{splice}
use Rattle.hns_p2p_frame.specs.declared.NetworkMagic.{NetworkMagic}
use Rattle.hns_p2p_frame.specs.Frame.{Frame, encodings}
use Rattle.hns_p2p_frame.specs.Walk.{Walked, stopped, refused, walk}
use Rattle.hns_p2p_frame.specs.Push as ported
use Rattle.hns_p2p_frame.specs.Push.{settled, delivered}
use Rattle.hns_p2p_frame.proofs.Tests.{fits, push_is}
use Rattle.hns_p2p_stream.specs.Conditions.{Fits}
use Rattle.hns_p2p_stream.specs.Runs as lists
use Rattle.hns_p2p_stream.specs.Runs.{told, Stream, held_of, PushOn, Call, Total, Run, more, Calls}
use Rattle.hns_p2p_stream.proofs.Ends.{Ended, walk_ended}
use Rattle.hns_p2p_stream.proofs.Runs.{GoodOn, Sound, empty, step_good, Kept, kept, list_holds}
use Rattle.hns_p2p_tally.specs.Tally.{bytes_from, size_of, with_frame, frame_total, byte_total, recount, Roomy}
use Rattle.hns_p2p_tally.specs.Tallying.{turned_away, counted, push_tallying}
use Rattle.hns_p2p_tally.proofs.Once.{sizes_are}
use Rattle.hns_p2p_tally.proofs.Tested.{all_passed_is}
use Rattle.hns_p2p_totals.specs.Totals.{tallying_ported, Summed, ZerosSummed, begun, Tallied, NotTurnedAway, TalliesHold}
use Rattle.hns_p2p_totals.proofs.Rooms.{all_fits}
use Rattle.hns_p2p_totals.proofs.Sums.{sum_places, up_same, none_up}
use Rattle.hns_p2p_totals.proofs.Exact.{Exact, exact_none, exact_summed}
use Rattle.hns_p2p_totals.proofs.Steps.{TallyStep, tally_step}

-- ---- zeros

get_zeros : (n i : ℕ) → get_or {A = ℕ} (replicate n 0) i 0 ≡ 0
get_zeros zero i = refl
get_zeros (suc n) zero = refl
get_zeros (suc n) (suc i) = get_zeros n i

pub zeros_summed : ZerosSummed
zeros_summed n =
    let z : List ℕ = replicate n 0 in
    record {
      frames = get_zeros n frame_total ∙ sym (sum_places z 256 ∙ up_same 256 (λ k. get_or z k 0) (λ k. 0) (λ k h. get_zeros n k) ∙ none_up 256);
      bytes = get_zeros n byte_total ∙ sym (sum_places (drop bytes_from z) 256 ∙ up_same 256 (λ k. get_or (drop bytes_from z) k 0) (λ k. 0) (λ k h. get_or-drop bytes_from z k 0 ∙ get_zeros n (bytes_from + k)) ∙ none_up 256);
    }

-- ---- lists

abbrev Ported : PushOn (List ℕ) → Type 0
Ported Q = Q ≡ tallying_ported

step_of : {P : PushOn (List ℕ)} → Ported P → (net : NetworkMagic) (z : Stream (List ℕ)) (x o : List ℕ) → GoodOn z → Bytes x → TallyStep net z x (P net z x o)
step_of e net z x o g b = subst (λ (Q : PushOn (List ℕ)). TallyStep net z x (Q net z x o)) (sym e) (tally_step net z x o g b)

sound : (cs : List (Call (List ℕ))) → Calls Ported cs → Calls Sound cs
sound [] a = tt
sound (c ∷ cs) a = ((λ net z x o g b. (step_of a.0.0 net z x o g b).step, a.0.1), sound cs a.1)

recount_append : (t : List ℕ) (fs gs : List Frame) → recount t (fs ++ gs) ≡ recount (recount t fs) gs
unfolding recount
recount_append t [] gs = refl
recount_append t (f ∷ fs) gs = recount_append (with_frame t f.packet_type (size_of f)) fs gs

record TallyKept (z : Stream (List ℕ)) (w : Total) (z' : Stream (List ℕ)) : Type 0 where
  recounts : z'.also ≡ recount z.also w.frames
  exact : {t₀ : List ℕ} → Summed t₀ → (gs : List Frame) → Exact t₀ z.also gs → Exact t₀ z'.also (gs ++ w.frames)

tally_kept : {net : NetworkMagic} {z z' : Stream (List ℕ)} {cs : List (Call (List ℕ))} {w : Total} → Calls Ported cs → GoodOn z → Run net z cs w z' → TallyKept z w z'
unfolding recount
tally_kept a g lists.none = record { recounts = refl; exact = λ s gs x. rw append-nil x }
tally_kept {net} {z} a g (more {c = c} {w = w} fs h r) =
    let st = step_of a.0.0 net z c.input c.output g a.0.1 in
    let k = tally_kept a.1 (step_good st.step g a.0.1) r in
    record {
      recounts = k.recounts ∙ rw (st.counts.recounts fs h) (sym (recount_append z.also fs w.frames));
      exact = λ s gs x. rw append_assoc at (k.exact s (gs ++ fs) (st.counts.exact s gs fs h x));
    }

-- from an empty stream
module _ {net : NetworkMagic} {s t : List ℕ} (y : Summed t) {cs : List (Call (List ℕ))} {w : Total} {z : Stream (List ℕ)} (a : Calls Ported cs) (r : Run net (begun s t) cs w z) where
  keeps : TallyKept (begun s t) w z
  keeps = tally_kept a (empty s t) r

  exact : Exact t z.also w.frames
  exact = keeps.exact y [] (exact_none t)

  holds : Kept net (begun s t) w z
  holds = kept (sound cs a) (empty s t) r

  tallied : Tallied t w z
  tallied =
      let x = exact in
      let all = ap length holds.all_bytes ∙ length-append (encodings net w.frames) (held_of z) in
      record {
        recounted = keeps.recounts;
        frames = x.frames;
        bytes = x.bytes;
        summed = exact_summed y x holds.well_formed;
        frame_total_is = x.frame_total_is;
        byte_total_is = omega (arith, x.byte_total_is, all, sizes_are net w.frames, length-take-le z.count z.store holds.good.fits);
      }

-- ---- a next push

next_taken : (net : NetworkMagic) (z : Stream (List ℕ)) (x o : List ℕ) → Fits z.store z.count x o → Roomy z.also (z.count + length x) → NotTurnedAway (tallying_ported net z x o).answer.verdict
unfolding tallying_ported push_tallying NotTurnedAway told delivered settled
next_taken net z x o f r =
    let s = z.store in
    let h = z.count in
    let t = z.also in
    let p = ported.push net s h x o in
    rw (all_passed_is s h x o t (λ (v : Refusal). turned_away v s h o t) (counted net t (delivered p.answer) p.store p.output) (all_fits f r))
    (rw (push_is net {s = s} {h = h} {x = x} {o = o} (fits f.held f.stream f.store f.output)) (settled_taken (walk net (take h s ++ x)) (walk_ended net (take h s ++ x))))
  where
    settled_taken : (w : Walked) → Ended net w → NotTurnedAway (told (delivered (settled net w (splice z.store z.count x) (z.count + length x) o).answer)).verdict
    settled_taken (stopped fs rest) d = tt
    settled_taken (refused v) d = d

pub tallies : TalliesHold
tallies net s t y cs a =
    record {
      list = list_holds s t cs (sound cs a);
      tally = λ r. tallied y a r;
      next_taken = λ {w} {z'} r. next_taken net z';
    }
