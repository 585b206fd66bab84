-- Demand 3 on pushes: what `specs/Stream.antt` says of a list of pushes holds of every one. Assumes nothing.
use Prim.Native.Nat.{ℕ, ◌+◌, ◌≤◌, zero-le}
use mathlib.Core.Path.{◌≡◌, refl, sym, ap, ◌∙◌, subst}
use mathlib.Core.List.{List, [], ◌∷◌, ◌++◌}
use mathlib.Core.Logic.{inl, inr, ⊎_elim}
use native.Mathlib.Omega.{arith}
use lib.ListN.{length, take}
use lib.Seq.{length-take-le}
use Rattle.hns_refusals.specs.Limits.{max_stream}
use Rattle.hns_encoding.specs.Bytes.{Bytes, none}
use Rattle.hns_encoding.specs.Format.{All}
use Rattle.hns_encoding.specs.Put.{splice}
use Rattle.hns_p2p_frame.specs.declared.NetworkMagic.{NetworkMagic}
use Rattle.hns_p2p_frame.specs.Pushed.{Pushed, Accepted, Refused}
use Rattle.hns_p2p_frame.specs.Frame.{Frame, WellFormed, encodings, not_yet, front}
use Rattle.hns_p2p_frame.specs.Conditions.{few}
use Rattle.hns_p2p_frame.specs.Walk.{Walked, stopped, refused, walk}
use Rattle.hns_p2p_frame.specs.Push.{Result, settled, push, delivered}
use Rattle.hns_p2p_stream.specs.Runs as lists
use Rattle.hns_p2p_stream.specs.Runs.{told, Stream, after, PushOn, taking, Hands, Total, adding, Run, more, Calls}
use Rattle.hns_p2p_stream.specs.Stream as stream
use Rattle.hns_p2p_stream.specs.Stream.{Call, Event, event, events, held_count, store_after, count_after, held_after, received, received_all, Delivers, DeliversAll, AnyHeaderRefused, NotTurnedAway, most_held, Demand3Holds, StreamKept}
use Rattle.hns_p2p_frame.proofs.Fronts.{front_is}
use Rattle.hns_p2p_stream.proofs.Ends.{front_few_held, front_none, Ended, walk_ended}
use Rattle.hns_p2p_frame.proofs.Tests.{PushTested, over, large, unstored, no_room, fits, tested}
use Rattle.hns_p2p_stream.proofs.Pushes.{Good, steps, step_good, step_open, step_shut, step_stays, Shut}
use Rattle.hns_p2p_stream.proofs.Runs.{Sound, kept, some_run, one_run, as_told, ported_step}

abbrev ByteInputs : List Call → Type 0
ByteInputs cs = All (λ c. Bytes c.input) cs

-- what a list of pushes delivered, taken apart
pub parts : {net : NetworkMagic} {e : Event} {es : List Event} {fs : List Frame} → DeliversAll net (e ∷ es) fs
    → (gs : List Frame) × (hs : List Frame) × (fs ≡ gs ++ hs) × Delivers net e.answer e.output gs × DeliversAll net es hs
parts (stream.more gs hs d ds) = (gs, hs, refl, d, ds)

nothing : {net : NetworkMagic} {fs : List Frame} → DeliversAll net [] fs → fs ≡ []
nothing stream.none = refl

-- ---- its pushes as a run

ported : PushOn (Unit {0})
ported net z x o = as_told (push net z.store z.count x o) tt

abbrev on : List ℕ → ℕ → Stream (Unit {0})
on s h = record { store = s; count = h; also = tt }

ported_sound : Sound ported
unfolding ported
ported_sound net z x o g b = ported_step z tt g (steps net z.store z.count x o g b)

calls : List Call → List (lists.Call (Unit {0}))
calls [] = []
calls (c ∷ cs) = record { push = ported; input = c.input; output = c.output } ∷ calls cs

calls_sound : (cs : List Call) → ByteInputs cs → Calls Sound (calls cs)
unfolding calls
calls_sound [] b = tt
calls_sound (c ∷ cs) b = ((ported_sound, b.0), calls_sound cs b.1)

-- the words of a run are those of the demand
hands : (net : NetworkMagic) (a : Pushed) (o : List ℕ) (fs : List Frame) → Delivers net a o fs → Hands net (told (delivered a)) o fs
unfolding Delivers told delivered encodings
hands net (Accepted n b k) o fs d = d
hands net (Refused r k) o fs d = rw d (refl, refl, zero-le)

delivers : (net : NetworkMagic) (a : Pushed) (o : List ℕ) (fs : List Frame) → Hands net (told (delivered a)) o fs → Delivers net a o fs
unfolding Delivers told delivered
delivers net (Accepted n b k) o fs d = d
delivers net (Refused r k) o [] d = refl
delivers net (Refused r k) o (f ∷ fs) d = absurd (omega (arith, d.0))

takes : (a : Pushed) (x : List ℕ) → taking (told (delivered a)).verdict x ≡ received a x
unfolding told delivered taking received
takes (Accepted n b k) x = refl
takes (Refused r k) x = refl

held_is : (a : Pushed) → (told (delivered a)).held ≡ held_count a
unfolding told delivered held_count
held_is (Accepted n b k) = refl
held_is (Refused r k) = refl

module _ (net : NetworkMagic) where
  record RunOf (cs : List Call) (s : List ℕ) (h : ℕ) (fs : List Frame) : Type 0 where
    total : Total
    run : Run net (on s h) (calls cs) total (on (store_after s (events push net s h cs)) (count_after h (events push net s h cs)))
    frames : total.frames ≡ fs
    received : total.received ≡ received_all (events push net s h cs)

  run_of : (cs : List Call) (s : List ℕ) (h : ℕ) (fs : List Frame) → DeliversAll net (events push net s h cs) fs → RunOf cs s h fs
  unfolding event events store_after count_after received_all calls ported
  run_of [] s h fs d = record { total = _; run = lists.none; frames = sym (nothing d); received = refl }
  run_of (c ∷ cs) s h fs d =
      let p = parts d in
      let e = push net s h c.input c.output in
      let r = run_of cs e.store (held_count e.answer) p.1 p.4 in
      let k : after (as_told e (tt {0})) ≡ on e.store (held_count e.answer) = ap (on e.store) (held_is e.answer) in
      record {
        total = adding (as_told e (tt {0})) c.input p.0 r.total;
        run = more {c = record { push = ported; input = c.input; output = c.output }} p.0 (hands net e.answer e.output p.0 p.3) (rw (← k) at r.run);
        frames = rw r.frames (sym p.2);
        received = rw (takes e.answer c.input, r.received);
      }

  of_run : (cs : List Call) (s : List ℕ) (h : ℕ) {w : Total} {z : Stream (Unit {0})} → Run net (on s h) (calls cs) w z → DeliversAll net (events push net s h cs) w.frames
  unfolding event events calls ported
  of_run [] s h lists.none = stream.none
  of_run (c ∷ cs) s h (more {w = w} fs d r) =
      let e = push net s h c.input c.output in
      let k : after (as_told e (tt {0})) ≡ on e.store (held_count e.answer) = ap (on e.store) (held_is e.answer) in
      stream.more fs w.frames (delivers net e.answer e.output fs d) (of_run cs e.store (held_count e.answer) (rw k at r))

  some_delivered : (cs : List Call) (s : List ℕ) (h : ℕ) → Good s h → ByteInputs cs → (fs : List Frame) × DeliversAll net (events push net s h cs) fs × All WellFormed fs
  some_delivered cs s h g b =
      let a = calls_sound cs b in
      let r = some_run {net = net} (calls cs) (on s h) a g in
      (r.0.frames, of_run cs s h r.2, (kept a g r.2).well_formed)

  one_delivered : (cs : List Call) (s : List ℕ) (h : ℕ) → Good s h → ByteInputs cs → (fs gs : List Frame) → DeliversAll net (events push net s h cs) fs → DeliversAll net (events push net s h cs) gs → fs ≡ gs
  one_delivered cs s h g b fs gs d e =
      let p = run_of cs s h fs d in
      let q = run_of cs s h gs e in
      sym p.frames ∙ ap (λ (w : Total). w.frames) (one_run (calls_sound cs b) g p.run q.run).0 ∙ q.frames

  bytes_kept : (cs : List Call) (s : List ℕ) (h : ℕ) → Good s h → ByteInputs cs → (fs : List Frame) → DeliversAll net (events push net s h cs) fs
      → take h s ++ received_all (events push net s h cs) ≡ encodings net fs ++ take (count_after h (events push net s h cs)) (store_after s (events push net s h cs))
  bytes_kept cs s h g b fs d =
      let p = run_of cs s h fs d in
      let es = events push net s h cs in
      ap (λ (l : List ℕ). take h s ++ l) (sym p.received) ∙ (kept (calls_sound cs b) g p.run).all_bytes ∙ ap (λ (l : List Frame). encodings net l ++ take (count_after h es) (store_after s es)) p.frames

  long_kept : (cs : List Call) (s : List ℕ) (h : ℕ) → Good s h → ByteInputs cs
      → Good (store_after s (events push net s h cs)) (count_after h (events push net s h cs)) × (length (store_after s (events push net s h cs)) ≡ length s)
  long_kept cs s h g b =
      let d = some_delivered cs s h g b in
      let k = kept (calls_sound cs b) g (run_of cs s h d.0 d.1).run in
      (k.good, k.same_length)

  open_kept : (cs : List Call) (s : List ℕ) (h : ℕ) → Good s h → ByteInputs cs → front net (take h s) ≡ not_yet → ¬ AnyHeaderRefused (events push net s h cs)
      → front net (take (count_after h (events push net s h cs)) (store_after s (events push net s h cs))) ≡ not_yet
  unfolding event events count_after store_after AnyHeaderRefused
  open_kept [] s h g b f q = f
  open_kept (c ∷ cs) s h g b f q =
      let st = steps net s h c.input c.output g b.0 in
      open_kept cs _ _ (step_good st g b.0) b.1 (step_open st f (λ t. q (inl t))) (λ t. q (inr t))

  -- no push of the list delivers a frame
  Quiet : List Event → Type 0
  Quiet [] = Unit {0}
  Quiet (e ∷ es) = ((fs : List Frame) → Delivers net e.answer e.output fs → fs ≡ []) × Quiet es

  quiet_later : (before later : List Event) → Quiet (before ++ later) → Quiet later
  unfolding Quiet
  quiet_later [] later q = q
  quiet_later (e ∷ es) later q = quiet_later es later q.1

  quiet_none : (es : List Event) → Quiet es → (fs : List Frame) → DeliversAll net es fs → fs ≡ []
  unfolding Quiet
  quiet_none [] q fs d = nothing d
  quiet_none (e ∷ es) q fs d = let p = parts d in rw (p.2, q.0 p.0 p.3, quiet_none es q.1 p.1 p.4)

  stays_shut : (cs : List Call) (s : List ℕ) (h : ℕ) → Good s h → ByteInputs cs → Shut net s h → Quiet (events push net s h cs)
  unfolding event events Quiet
  stays_shut [] s h g b q = tt
  stays_shut (c ∷ cs) s h g b q =
      let st = steps net s h c.input c.output g b.0 in
      let r = step_stays st q in
      (r.1, stays_shut cs _ _ (step_good st g b.0) b.1 r.0)

  then_quiet : (cs : List Call) (s : List ℕ) (h : ℕ) → Good s h → ByteInputs cs → (before later : List Event) → events push net s h cs ≡ before ++ later → AnyHeaderRefused before → Quiet later
  unfolding event events AnyHeaderRefused
  then_quiet cs s h g b [] later e q = absurd q
  then_quiet [] s h g b (a ∷ es) later e q = absurd (cc)
  then_quiet (c ∷ cs) s h g b (a ∷ es) later e q =
      let st = steps net s h c.input c.output g b.0 in
      let i : event push net s h c ≡ a = cc in
      let t : events push net (event push net s h c).store (held_count (event push net s h c).answer) cs ≡ es ++ later = cc in
      ⊎_elim
      (λ k. quiet_later es later (rw t at (stays_shut cs _ _ (step_good st g b.0) b.1 (step_shut st (rw (← i) at k)))))
      (λ k. then_quiet cs _ _ (step_good st g b.0) b.1 es later t k)
      q

settled_taken : (net : NetworkMagic) (w : Walked) → Ended net w → (s : List ℕ) (h : ℕ) (o : List ℕ) → NotTurnedAway (settled net w s h o).answer
unfolding settled NotTurnedAway
settled_taken net (stopped fs rest) d s h o = tt
settled_taken net (refused r) d s h o = d

next_push : (net : NetworkMagic) (s : List ℕ) (h : ℕ) (x o : List ℕ) → h + length x ≤ max_stream → max_stream ≤ length s → max_stream ≤ length o → NotTurnedAway (push net s h x o).answer
next_push net s h x o l m n = go (tested net s h x o)
  where
    go : {p : Result} → PushTested net s h x o p → NotTurnedAway p.answer
    go (over a) = absurd (omega arith)
    go (large a b) = absurd (omega arith)
    go (unstored a b c) = absurd (omega arith)
    go (no_room a b c d) = absurd (omega arith)
    go (fits a b c d) = settled_taken net (walk net (take h s ++ x)) (walk_ended net (take h s ++ x)) (splice s h x) (h + length x) o

-- before the first push
empty : (s : List ℕ) → Good s 0
empty s = record { fits = zero-le; bytes = none }

pub demand_3 : Demand3Holds
unfolding held_after
demand_3 net s cs b =
    let es = events push net s 0 cs in
    let g = empty s in
    let d = some_delivered net cs s 0 g b in
    let k = long_kept net cs s 0 g b in
    let f : ¬ AnyHeaderRefused es → front net (held_after s es) ≡ not_yet = λ q. open_kept net cs s 0 g b (front_is (few (omega arith))) q in
    let c : ¬ AnyHeaderRefused es → count_after 0 es ≤ most_held = λ q. subst (λ (n : ℕ). n ≤ most_held) (length-take-le (count_after 0 es) (store_after s es) k.0.fits) (front_few_held net (held_after s es) (f q)) in
    record {
      frames_delivered = (d.0, d.1);
      one_list = one_delivered net cs s 0 g b;
      all_bytes = bytes_kept net cs s 0 g b;
      no_frame_held = λ q. front_none net (held_after s es) (f q);
      few_held = λ q. front_few_held net (held_after s es) (f q);
      next_taken = λ q x o l m n. next_push net (store_after s es) (count_after 0 es) x o (omega (arith, c q)) (omega (arith, k.1)) n;
      then_none = λ before later e q. quiet_none net later (then_quiet net cs s 0 g b before later e q);
    }

pub stream_kept : StreamKept
stream_kept net s cs b =
    let g = empty s in
    let d = some_delivered net cs s 0 g b in
    let k = long_kept net cs s 0 g b in
    record {
      well_formed = λ fs e. subst (All WellFormed) (one_delivered net cs s 0 g b d.0 fs d.1 e) d.2;
      same_length = k.1;
      held_there = k.0.fits;
    }
