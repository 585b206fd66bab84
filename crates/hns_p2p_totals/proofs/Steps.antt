-- One tallying push as a step of a list: what it delivers, and that it counts just that. Assumes nothing.
use Prim.Native.Nat.{ℕ, ◌+◌, ◌≤◌}
use mathlib.Core.Path.{◌≡◌, refl, ap, ◌∙◌, subst}
use mathlib.Core.List.{List, [], ◌∷◌, ◌++◌, append-nil}
use mathlib.Core.Bool.{false}
use native.Mathlib.Omega.{arith}
use lib.ListN.{length, take, length-append, length-take}
use Rattle.std.specs.Prelude.{Ok, Err}
use Rattle.hns_refusals.specs.declared.Refusal.{Refusal}
use Rattle.hns_refusals.specs.Refusals.{Answer, output_short, tally_full}
use Rattle.hns_encoding.specs.Bytes.{Bytes}
use Rattle.hns_encoding.specs.Format.{All}
use Rattle.hns_encoding.proofs.Outcomes.{choose_holds}
use Rattle.hns_p2p_frame.specs.declared.NetworkMagic.{NetworkMagic}
use Rattle.hns_p2p_frame.specs.Frame.{Frame, WellFormed, encodings}
use Rattle.hns_p2p_frame.specs.Walk.{cut}
use Rattle.hns_p2p_frame.specs.Push as ported
use Rattle.hns_p2p_frame.specs.Push.{passing, delivered}
use Rattle.hns_p2p_frame.proofs.Tests.{Tested, over, large, unstored, no_room, fits, passes}
use Rattle.hns_p2p_stream.specs.Stream.{for_header}
use Rattle.hns_p2p_stream.specs.Runs.{Verdict, accepted, refused_by, told, Stream, held_of, Left, after, taking, Hands}
use Rattle.hns_p2p_stream.proofs.Encodings.{frames_encodings}
use Rattle.hns_p2p_stream.proofs.Pushes.{steps}
use Rattle.hns_p2p_stream.proofs.Runs.{Step, GoodOn, step_one, stays, away_step, ported_step}
use Rattle.hns_p2p_tally.specs.Tally.{tally_size, recount, Roomy}
use Rattle.hns_p2p_tally.specs.Tallying.{Result, turned_away, counted, push_tallying}
use Rattle.hns_p2p_tally.proofs.Once.{sizes, sizes_are}
use Rattle.hns_p2p_tally.proofs.Tested.{AllTested, of_push, short, full, room, passes_all, roomy_true}
use Rattle.hns_p2p_totals.specs.Totals.{leaves, tallying_ported, Summed}
use Rattle.hns_p2p_totals.proofs.Sums.{fewer}
use Rattle.hns_p2p_totals.proofs.Exact.{Exact, exact_more}

no_frames : (fs : List Frame) → length fs ≡ 0 → fs ≡ []
no_frames [] e = refl
no_frames (f ∷ fs) e = absurd (omega arith)

-- what a push counts: its frames on top of the tally, each number by what the frames say
pub record Counted (net : NetworkMagic) (z : Stream (List ℕ)) (p : Left (List ℕ)) : Type 0 where
  pub recounts : (fs : List Frame) → Hands net p.answer p.output fs → p.also ≡ recount z.also fs
  pub exact : {t₀ : List ℕ} → Summed t₀ → (gs fs : List Frame) → Hands net p.answer p.output fs → Exact t₀ z.also gs → Exact t₀ p.also (gs ++ fs)

pub record TallyStep (net : NetworkMagic) (z : Stream (List ℕ)) (x : List ℕ) (p : Left (List ℕ)) : Type 0 where
  pub step : Step net z x p
  pub counts : Counted net z p

-- turned away: no frame, and the tally as it was
if_turned_away : {net : NetworkMagic} (z : Stream (List ℕ)) {x : List ℕ} (r : Refusal) (o : List ℕ) → GoodOn z → for_header r ≡ false → TallyStep net z x (stays z r o)
unfolding recount
if_turned_away z r o g e =
    record {
      step = away_step z r o g e;
      counts = record {
        recounts = λ fs h. rw (no_frames fs h.0);
        exact = λ s gs fs h x. rw (no_frames fs h.0, append-nil) x;
      };
    }

taking_short : (v : Verdict) (x : List ℕ) → length (taking v x) ≤ length x
unfolding taking
taking_short accepted x = omega arith
taking_short (refused_by r) x = choose_holds (λ (l : List ℕ). length l ≤ length x) (for_header r) (λ e. omega arith) (λ e. omega arith)

-- taken: the frames at the output's front are counted, and there is room for them
module _ {net : NetworkMagic} {z : Stream (List ℕ)} {x : List ℕ} {p : Left (List ℕ)} (st : Step net z x p)
    (c : p.also ≡ recount z.also (cut net (take p.answer.bytes p.output)).frames) (room : Roomy z.also (z.count + length x)) where
  module _ (fs : List Frame) (h : Hands net p.answer p.output fs) where
    well : All WellFormed fs
    well = rw (step_one st fs h) st.well_formed

    recounts : p.also ≡ recount z.also fs
    recounts = c ∙ ap (recount z.also) (rw (← h.1) (frames_encodings net fs well))

    few : sizes fs ≤ z.count + length x
    few =
        let a : length (held_of z) ≤ z.count = omega (arith, length-take z.count z.store) in
        let l = ap length st.bytes in
        let m = length-append (held_of z) (taking p.answer.verdict x) in
        let n = length-append (encodings net st.frames) (held_of (after p)) in
        let q : length (encodings net st.frames) ≡ sizes fs = rw (← step_one st fs h) (sizes_are net fs) in
        omega (arith, taking_short p.answer.verdict x)

    exact : {t₀ : List ℕ} → Summed t₀ → (gs : List Frame) → Exact t₀ z.also gs → Exact t₀ p.also (gs ++ fs)
    exact s gs e =
        rw recounts
        (exact_more s fs z.also gs e room.size well (omega (arith, room.frames, e.frame_total_is, fewer fs, few)) (omega (arith, room.bytes, e.byte_total_is, few)))

  taken : TallyStep net z x p
  taken = record { step = st; counts = record { recounts = recounts; exact = λ s gs fs h. exact fs h s gs } }

-- a refusal before the append is none for a header
pub away_code : (s : List ℕ) (h : ℕ) (x o : List ℕ) {r : Refusal} → passing s h x o Err (Ok (h + length x)) ≡ Err r → for_header r ≡ false
unfolding for_header
away_code s h x o {r} e = go (passes s h x o Err (Ok (h + length x))) e
  where
    one : {v : Refusal} → for_header v ≡ false → ◌≡◌ {A = Answer ℕ} (Err v) (Err r) → for_header r ≡ false
    one {v} f i = let same : v ≡ r = cc i in subst (λ (q : Refusal). for_header q ≡ false) same f

    go : {b : Answer ℕ} → Tested s h x o Err (Ok (h + length x)) b → b ≡ Err r → for_header r ≡ false
    go (over a) i = one refl i
    go (large a b) i = one refl i
    go (unstored a b c) i = one refl i
    go (no_room a b c d) i = one refl i
    go (fits a b c d) i = absurd (cc i)

pub tally_step : (net : NetworkMagic) (z : Stream (List ℕ)) (x o : List ℕ) → GoodOn z → Bytes x → TallyStep net z x (tallying_ported net z x o)
unfolding tallying_ported push_tallying told for_header
tally_step net z x o g b = go (passes_all z.store z.count x o z.also away p)
  where
    away : Refusal → Result
    away r = turned_away r z.store z.count o z.also

    p : Result
    p = let q = ported.push net z.store z.count x o in counted net z.also (delivered q.answer) q.store q.output

    go : {q : Result} → AllTested z.store z.count x o z.also away p q → TallyStep net z x (leaves q)
    go (of_push {r = r} e) = if_turned_away z r o g (away_code z.store z.count x o e)
    go (short f l) = if_turned_away z (output_short tally_size) o g refl
    go (full f l e) = if_turned_away z tally_full o g refl
    go (room f l e) = taken (ported_step z p.tally g (steps net z.store z.count x o g b)) refl (roomy_true z.also (z.count + length x) l e)
