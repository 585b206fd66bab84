-- Log and export agree: a survey's frames, written again, are the front of its log, and what follows them is held or was refused. Assumes nothing.
use Prim.Native.Nat.{ℕ, zero, suc, ◌+◌, ◌^◌, ◌≤◌, ◌<◌, zero-le}
use mathlib.Core.Path.{◌≡◌, refl, sym, ap, ◌∙◌}
use mathlib.Core.List.{List, [], ◌∷◌, ◌++◌, append_assoc, append-nil}
use native.Mathlib.Omega.{arith}
use lib.ListN.{length, take, drop, length-take, length-drop, take-append-drop}
use lib.Seq.{length-take-le}
use lib.Dec.{eqb, T, eqb→eq}
use borrow.Author.Tests.{eqb-true, eqb-false}
use Rattle.hns_refusals.specs.declared.Refusal.{Refusal}
use Rattle.hns_refusals.specs.Refusals.{number}
use Rattle.hns_encoding.specs.Bytes.{Bytes, none}
use Rattle.hns_encoding.specs.Format.{All}
use Rattle.hns_encoding.specs.Put.{splice}
use Rattle.hns_encoding.proofs.Numbers.{bytes_drop, bytes_take}
use Rattle.hns_encoding.proofs.Outcomes.{choose_holds, choose_leb}
use Rattle.hns_p2p_frame.specs.declared.NetworkMagic.TheVariants.{Mainnet}
use Rattle.hns_p2p_frame.specs.Pushed.{Pushed, Accepted, Refused}
use Rattle.hns_p2p_frame.specs.Frame.{Frame, WellFormed, encodings, not_yet, front}
use Rattle.hns_p2p_frame.specs.Conditions.{few}
use Rattle.hns_p2p_frame.specs.Walk.{Walked, stopped, refused, cut, walk}
use Rattle.hns_p2p_frame.specs.Push.{Result, settled, push}
use Rattle.hns_p2p_frame.proofs.Fronts.{seen, front_is}
use Rattle.hns_p2p_frame.proofs.Walks.{cut_open, cut_frame}
use Rattle.hns_p2p_frame.proofs.Tests.{PushTested, over, large, unstored, no_room, fits, tested}
use Rattle.hns_p2p_stream.specs.Stream.{held_count, for_header, Delivers}
use Rattle.hns_p2p_stream.proofs.Encodings.{front_encoding, encodings_append, all_append}
use Rattle.hns_p2p_stream.proofs.Ends.{front_few_held, Ended, walk_ended}
use Rattle.hns_p2p_stream.proofs.Pushes.{Good, Accepts, Stepped, away, header, taken, steps, step_good}
use Rattle.survey_export.specs.Survey.{chunk_size, Survey, Last, held, stop, delivered, added_by, Chunk, chunk, survey_by, survey_from, survey}
use Rattle.survey_agreement.specs.Agreement.{State, start, pushed, stepped, here, more, StoppedBy, Agrees, LogAndExportAgree, LinesAreDelivered}

-- ---- the frames on the lines of a push

frames_encodings : (fs : List Frame) → All WellFormed fs → (cut Mainnet (encodings Mainnet fs)).frames ≡ fs
unfolding encodings
frames_encodings [] h = rw (cut_open Mainnet [] (front_is (few (omega arith))))
frames_encodings (f ∷ fs) h = rw (cut_frame Mainnet _ f (encodings Mainnet fs) (front_encoding Mainnet f (encodings Mainnet fs) h.0.within), frames_encodings fs h.1)

shown : {s : List ℕ} {h : ℕ} {x : List ℕ} {fs : List Frame} {rest s' o' : List ℕ} → Accepts Mainnet s h x fs rest s' o' → delivered (length (encodings Mainnet fs)) o' ≡ fs
shown {fs = fs} a = ap (λ (l : List ℕ). (cut Mainnet l).frames) a.delivered ∙ frames_encodings fs a.well_formed

pub lines_delivered : LinesAreDelivered
unfolding Delivers
lines_delivered s h x o there a c n b k e = go (steps Mainnet s h x o (record { fits = there; bytes = a }) c) e
  where
    go : {p : Result} → Stepped Mainnet s h x o p → p.answer ≡ Accepted n b k → Delivers Mainnet (Accepted n b k) p.output (delivered b p.output)
    go (away r f) q = let z : ◌≡◌ {A = ℕ} 0 1 = cc q in absurd (let w : ⊥ = omega arith in w)
    go (header r s' t w f l m) q = let z : ◌≡◌ {A = ℕ} 0 1 = cc q in absurd (let v : ⊥ = omega arith in v)
    go (taken fs rest s' o' d) q =
        let bytes : length (encodings Mainnet fs) ≡ b = cc q in
        let count : length fs ≡ n = cc q in
        rw (← bytes, shown d) (count, sym d.delivered, d.room)

-- ---- log and export

-- the number of a last line has at most twenty digits, so that its text says it
abbrev pub Short : Last → Type 0
Short (held n) = n < 10 ^ 20
Short (stop r) = r < 10 ^ 20

-- what is shown of a survey
pub record Sound (log : List ℕ) (z : State) (v : Survey) : Type 0 where
  pub agrees : Agrees log z v
  pub short : Short v.last

held_or_stop : {n r : ℕ} → held n ≡ stop r → ⊥
held_or_stop e = let z : ◌≡◌ {A = ℕ} 0 1 = cc e in omega arith

held_one : {n m : ℕ} → held n ≡ held m → n ≡ m
held_one e = cc

stop_one : {n m : ℕ} → stop n ≡ stop m → n ≡ m
stop_one e = cc

-- the log is over
ends : (s : List ℕ) (h : ℕ) (log : List ℕ) → length log ≡ 0 → Good s h → front Mainnet (take h s) ≡ not_yet → (z : State) → Sound (take h s ++ log) z (record { frames = []; last = held h })
unfolding encodings
ends s h [] l g f z =
    let count : length (take h s) ≡ h = length-take-le h s g.fits in
    record {
      agrees = record { held_agrees = λ n e. (take h s, append-nil (take h s), count ∙ held_one e, rw f at (seen Mainnet (take h s))); stop_agrees = λ r e. absurd (held_or_stop e); well_formed = tt };
      short = omega (arith, front_few_held Mainnet (take h s) f);
    }
ends s h (b ∷ log) l g f z = absurd (omega arith)

-- the push that stopped a survey stopped the survey that led to its start
led : {z : State} {n b h r : ℕ} {rest : List ℕ} → 0 < length z.log → (pushed z).answer ≡ Accepted n b h → StoppedBy (stepped z h) r rest → StoppedBy z r rest
led some p y = record { last = y.last; leads = more some p y.leads; there = y.there; refusal = y.refusal; refused = y.refused; number = y.number }

-- frames are delivered, which are shown as gs, and then the survey goes on
goes_on : (fs : List Frame) {gs : List Frame} {log rest : List ℕ} {z : State} {v : Survey} {n b h : ℕ} → gs ≡ fs → 0 < length z.log → (pushed z).answer ≡ Accepted n b h → log ≡ encodings Mainnet fs ++ rest → All WellFormed fs → Sound rest (stepped z h) v
    → Sound log z (record { frames = gs ++ v.frames; last = v.last })
goes_on fs {log = log} {rest} {z} {v} shown some p e w a =
    rw shown (record {
      agrees = record {
        held_agrees = λ n l. let k = a.agrees.held_agrees n l in (k.0, joined k.0 k.1, k.2, k.3);
        stop_agrees = λ r l. let k = a.agrees.stop_agrees r l in (k.0, joined k.0 k.1, led some p k.2);
        well_formed = all_append fs v.frames w a.agrees.well_formed;
      };
      short = a.short;
    })
  where
    joined : (end : List ℕ) → rest ≡ encodings Mainnet v.frames ++ end → log ≡ encodings Mainnet (fs ++ v.frames) ++ end
    joined end k = e ∙ rw (k, encodings_append, append_assoc)

-- a refusal's number has at most twenty digits
abbrev Numbered : Pushed → Type 0
Numbered (Accepted frames bytes h) = Unit {0}
Numbered (Refused r h) = number r < 10 ^ 20

header_numbered : (r : Refusal) → T (for_header r) → number r < 10 ^ 20
unfolding for_header
header_numbered r = choose_holds (λ b. T b → number r < 10 ^ 20) (eqb (number r) 4) (λ e t. omega (arith, eqb-true (number r) 4 e)) (λ e t. omega (arith, eqb→eq (number r) 5 t))

settled_numbered : (w : Walked) → Ended Mainnet w → (s : List ℕ) (h : ℕ) (o : List ℕ) → Numbered (settled Mainnet w s h o).answer
unfolding settled
settled_numbered (stopped fs rest) d s h o = tt
settled_numbered (refused r) d s h o = header_numbered r d

push_numbered : (s : List ℕ) (h : ℕ) (x o : List ℕ) → Numbered (push Mainnet s h x o).answer
push_numbered s h x o = go (tested Mainnet s h x o)
  where
    go : {p : Result} → PushTested Mainnet s h x o p → Numbered p.answer
    go (over a) = omega arith
    go (large a b) = omega arith
    go (unstored a b c) = omega arith
    go (no_room a b c d) = omega arith
    go (fits a b c d) = settled_numbered (walk Mainnet (take h s ++ x)) (walk_ended Mainnet (take h s ++ x)) (splice s h x) (h + length x) o

-- the push of a chunk is refused
stops : (s : List ℕ) (h : ℕ) (o log : List ℕ) (r : Refusal) (k : ℕ) → (push Mainnet s h (take chunk_size log) o).answer ≡ Refused r k → Sound (take h s ++ log) (record { store = s; count = h; output = o; log = log }) (record { frames = []; last = stop (number r) })
unfolding encodings
stops s h o log r k e =
    record {
      agrees = record {
        held_agrees = λ n l. absurd (held_or_stop (sym l));
        stop_agrees = λ n l. (take h s ++ log, refl, record { last = _; leads = here; there = refl; refusal = r; refused = (k, e); number = stop_one l });
        well_formed = tt;
      };
      short = rw e at (push_numbered s h (take chunk_size log) o);
    }

-- what a chunk adds, where its push is p
turn : {s : List ℕ} {h : ℕ} {o : List ℕ} (log : List ℕ) {p : Result} → Good s h → Bytes log → 0 < length log → push Mainnet s h (take chunk_size log) o ≡ p → Stepped Mainnet s h (take chunk_size log) o p
    → (go : ℕ → Survey) → (chunk_size ≤ length log → Good p.store (held_count p.answer) → front Mainnet (take (held_count p.answer) p.store) ≡ not_yet
    → Sound (take (held_count p.answer) p.store ++ drop chunk_size log) (record { store = p.store; count = held_count p.answer; output = p.output; log = drop chunk_size log }) (go (held_count p.answer)))
    → Sound (take h s ++ log) (record { store = s; count = h; output = o; log = log }) (survey_by (added_by (length (take chunk_size log)) p.answer p.output) go)
unfolding survey_by added_by held_count
turn {s} {h} {o} log g b some e (away r c) go next = stops s h o log r h (ap (λ (q : Result). q.answer) e)
turn {s} {h} {o} log g b some e (header r s' c w t l k) go next = stops s h o log r (h + length (take chunk_size log)) (ap (λ (q : Result). q.answer) e)
turn {s} {h} {o} log g b some e (taken fs rest s' o' a) go next =
    let good = step_good {o = o} (taken fs rest s' o' a) g (bytes_take chunk_size b) in
    let none-whole : front Mainnet (take (length rest) s') ≡ not_yet = rw a.held a.ended in
    let bytes : take h s ++ log ≡ encodings Mainnet fs ++ (take (length rest) s' ++ drop chunk_size log) =
    ap (λ (l : List ℕ). take h s ++ l) (sym (take-append-drop chunk_size log)) ∙ rw (a.held, ← append_assoc (take h s) (take chunk_size log) (drop chunk_size log), ← a.cut) (append_assoc (encodings Mainnet fs) rest (drop chunk_size log)) in
    let answered : (pushed (record { store = s; count = h; output = o; log = log })).answer ≡ Accepted (length fs) (length (encodings Mainnet fs)) (length rest) = ap (λ (q : Result). q.answer) e in
    choose_leb (λ w. Sound (take h s ++ log) (record { store = s; count = h; output = o; log = log }) (survey_by w go)) chunk_size (length (take chunk_size log))
    (λ full. goes_on fs (shown a) some answered bytes a.well_formed (rw e (next (omega (arith, length-take chunk_size log)) good none-whole)))
    (λ short. rw append-nil at (goes_on fs {z = record { store = s; count = h; output = o; log = log }} {v = record { frames = []; last = held (length rest) }} (shown a) some answered bytes a.well_formed (rw e (ends s' (length rest) (drop chunk_size log) (omega (arith, length-take chunk_size log, length-drop chunk_size log)) good none-whole _))))

-- of a stream between pushes that holds no whole frame: what it holds and what is left of the log
sound : (n : ℕ) (s : List ℕ) (h : ℕ) (o log : List ℕ) → length log < n → Good s h → front Mainnet (take h s) ≡ not_yet → Bytes log → Sound (take h s ++ log) (record { store = s; count = h; output = o; log = log }) (survey_from n s h o log)
unfolding survey_from survey_by chunk
sound zero s h o log l g f b = absurd (omega arith)
sound (suc n) s h o log l g f b =
    choose_holds (λ (c : Chunk). Sound (take h s ++ log) (record { store = s; count = h; output = o; log = log }) (survey_by c.added (λ h'. survey_from n c.store h' c.output (drop chunk_size log)))) (eqb (length (take chunk_size log)) 0)
    (λ e. ends s h log (omega (arith, length-take chunk_size log, eqb-true (length (take chunk_size log)) 0 e)) g f _)
    (λ e. let none = eqb-false (length (take chunk_size log)) 0 e in
    let some : 0 < length log = omega (arith, length-take chunk_size log) in
    turn log g b some refl (steps Mainnet s h (take chunk_size log) o g (bytes_take chunk_size b)) (λ h'. survey_from n (push Mainnet s h (take chunk_size log) o).store h' (push Mainnet s h (take chunk_size log) o).output (drop chunk_size log))
    (λ full g' f'. sound n _ _ _ (drop chunk_size log) (simp length-drop (omega arith)) g' f' (bytes_drop chunk_size b)))

pub survey_sound : (s o log : List ℕ) → Bytes log → Sound log (start s o log) (survey s o log)
unfolding survey
survey_sound s o log b = sound (suc (length log)) s 0 o log (omega arith) (record { fits = zero-le; bytes = none }) (front_is (few (omega arith))) b

-- Log and export agree: of every log, every store and every output of any length.
pub agreement : LogAndExportAgree
agreement s o log b = (survey_sound s o log b).agrees
