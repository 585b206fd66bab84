-- Lists of pushes of any kind: one step of a push, and what follows for lists of such pushes. Assumes nothing.
use Prim.Native.Nat.{ℕ, ◌≤◌, zero-le}
use mathlib.Core.Path.{◌≡◌, refl, sym, ap₂, ◌∙◌}
use mathlib.Core.List.{List, [], ◌∷◌, ◌++◌, append_assoc, append-nil}
use mathlib.Core.Bool.{false}
use native.Mathlib.Omega.{arith}
use lib.ListN.{length}
use lib.Seq.{drop-append_seam}
use Rattle.hns_refusals.specs.declared.Refusal.{Refusal}
use Rattle.hns_refusals.specs.Limits.{max_stream}
use Rattle.hns_encoding.specs.Bytes.{Bytes, none}
use Rattle.hns_encoding.specs.Format.{All}
use Rattle.hns_encoding.proofs.Numbers.{bytes_drop, bytes_append}
use Rattle.hns_encoding.proofs.Outcomes.{choose_holds}
use Rattle.hns_p2p_frame.specs.declared.NetworkMagic.{NetworkMagic}
use Rattle.hns_p2p_frame.specs.Frame.{Frame, WellFormed, encodings}
use Rattle.hns_p2p_frame.specs.Push.{Result, delivered}
use Rattle.hns_p2p_stream.specs.Stream.{for_header}
use Rattle.hns_p2p_stream.specs.Runs as lists
use Rattle.hns_p2p_stream.specs.Runs.{Verdict, accepted, refused_by, told, Stream, held_of, Left, after, PushOn, Call, taking, Hands, Total, adding, Run, more, ListHolds, Calls}
use Rattle.hns_p2p_stream.proofs.Encodings.{encodings_one, encodings_append, all_append}
use Rattle.hns_p2p_stream.proofs.Pushes.{T_true, Good, Stepped, away, header, taken}

-- what a push of the input x to the stream z shows, that leaves p
pub record Step {T : Type 0} (net : NetworkMagic) (z : Stream T) (x : List ℕ) (p : Left T) : Type 0 where
  pub frames : List Frame
  pub hands : Hands net p.answer p.output frames
  pub well_formed : All WellFormed frames
  pub few : length (encodings net frames) ≤ max_stream
  pub bytes : held_of z ++ taking p.answer.verdict x ≡ encodings net frames ++ held_of (after p)
  pub fits : p.answer.held ≤ length p.store
  pub same_length : length p.store ≡ length z.store

abbrev pub GoodOn : {T : Type 0} → Stream T → Type 0
GoodOn z = Good z.store z.count

-- a push that shows its step on every stream
abbrev pub Sound : {T : Type 0} → PushOn T → Type 0
Sound {T} P =
    (net : NetworkMagic) (z : Stream T) (x o : List ℕ) → GoodOn z → Bytes x → Step net z x (P net z x o)

taking_bytes : (v : Verdict) {x : List ℕ} → Bytes x → Bytes (taking v x)
unfolding taking
taking_bytes accepted b = b
taking_bytes (refused_by r) b = choose_holds Bytes (for_header r) (λ e. b) (λ e. none)

-- before the first push
pub empty : {T : Type 0} (s : List ℕ) (t : T) → GoodOn (record { store = s; count = 0; also = t })
empty s t = record { fits = zero-le; bytes = none }

module _ {T : Type 0} {net : NetworkMagic} {z : Stream T} {x : List ℕ} {p : Left T} (st : Step net z x p) where
  pub step_good : GoodOn z → Bytes x → GoodOn (after p)
  step_good g b =
      record {
        fits = st.fits;
        bytes = rw (← drop-append_seam (encodings net st.frames) (held_of (after p)), ← st.bytes) (bytes_drop (length (encodings net st.frames)) (bytes_append g.bytes (taking_bytes p.answer.verdict b)));
      }

  -- what it hands out is one list
  pub step_one : (fs : List Frame) → Hands net p.answer p.output fs → fs ≡ st.frames
  step_one fs h =
      let k = st.hands in
      sym (encodings_one net st.frames fs (omega (arith, st.few)) (k.0 ∙ sym h.0) (k.1 ∙ sym h.1))

joined : (a r n e m f k : List ℕ) → a ++ r ≡ e ++ m → m ++ n ≡ f ++ k → a ++ (r ++ n) ≡ (e ++ f) ++ k
joined a r n e m f k p q = sym (append_assoc a r n) ∙ rw (p, append_assoc e m n, q) (sym (append_assoc e f k))

-- what a list of pushes keeps
pub record Kept {T : Type 0} (net : NetworkMagic) (z : Stream T) (w : Total) (z' : Stream T) : Type 0 where
  pub good : GoodOn z'
  pub same_length : length z'.store ≡ length z.store
  pub well_formed : All WellFormed w.frames
  pub all_bytes : held_of z ++ w.received ≡ encodings net w.frames ++ held_of z'

module _ {T : Type 0} {net : NetworkMagic} where
  pub kept : {z z' : Stream T} {cs : List (Call T)} {w : Total} → Calls Sound cs → GoodOn z → Run net z cs w z' → Kept net z w z'
  unfolding encodings
  kept {z} a g lists.none = record { good = g; same_length = refl; well_formed = tt; all_bytes = append-nil (held_of z) }
  kept {z} {z'} a g (more {c = c} {w = w} fs h r) =
      let p = c.push net z c.input c.output in
      let st = a.0.0 net z c.input c.output g a.0.1 in
      let same = step_one st fs h in
      let k = kept a.1 (step_good st g a.0.1) r in
      let one : held_of z ++ taking p.answer.verdict c.input ≡ encodings net fs ++ held_of (after p) = rw same st.bytes in
      record {
        good = k.good;
        same_length = k.same_length ∙ st.same_length;
        well_formed = all_append fs w.frames (rw same st.well_formed) k.well_formed;
        all_bytes =
            rw (encodings_append)
            (joined (held_of z) (taking p.answer.verdict c.input) w.received (encodings net fs) (held_of (after p)) (encodings net w.frames) (held_of z') one k.all_bytes);
      }

  pub some_run : (cs : List (Call T)) (z : Stream T) → Calls Sound cs → GoodOn z → (w : Total) × (z' : Stream T) × Run net z cs w z'
  some_run [] z a g = (_, z, lists.none)
  some_run (c ∷ cs) z a g =
      let st = a.0.0 net z c.input c.output g a.0.1 in
      let r = some_run cs (after (c.push net z c.input c.output)) a.1 (step_good st g a.0.1) in
      (_, r.1, more {c = c} {cs = cs} st.frames st.hands r.2)

  pub one_run : {z z' y : Stream T} {cs : List (Call T)} {w v : Total} → Calls Sound cs → GoodOn z → Run net z cs w z' → Run net z cs v y → (w ≡ v) × (z' ≡ y)
  one_run a g lists.none lists.none = (refl, refl)
  one_run {z} a g (more {c = c} fs h r) (more gs i q) =
      let st = a.0.0 net z c.input c.output g a.0.1 in
      let k = one_run a.1 (step_good st g a.0.1) r q in
      let same : fs ≡ gs = step_one st fs h ∙ sym (step_one st gs i) in
      (ap₂ (λ (l : List Frame) (u : Total). adding (c.push net z c.input c.output) c.input l u) same k.0, k.1)

  pub list_holds : (s : List ℕ) (t : T) (cs : List (Call T)) → Calls Sound cs → ListHolds net (record { store = s; count = 0; also = t }) cs
  list_holds s t cs a =
      let z : Stream T = record { store = s; count = 0; also = t } in
      let g = empty s t in
      record {
        runs = some_run cs z a g;
        one_list = one_run a g;
        all_bytes = λ r. (kept a g r).all_bytes;
        well_formed = λ r. (kept a g r).well_formed;
        same_length = λ r. (kept a g r).same_length;
        held_there = λ r. (kept a g r).good.fits;
      }

-- ---- steps

-- what a push leaves that is turned away by r
abbrev pub stays : {T : Type 0} → Stream T → Refusal → List ℕ → Left T
stays z r o =
    record { answer = record { frames = 0; bytes = 0; held = z.count; verdict = refused_by r }; store = z.store; output = o; also = z.also }

pub away_step : {T : Type 0} {net : NetworkMagic} (z : Stream T) {x : List ℕ} (r : Refusal) (o : List ℕ) → GoodOn z → for_header r ≡ false → Step net z x (stays z r o)
unfolding taking encodings
away_step z r o g e = record { frames = []; hands = (refl, refl, zero-le); well_formed = tt; few = zero-le; bytes = rw e (append-nil (held_of z)); fits = g.fits; same_length = refl }

-- what the ported push leaves
abbrev pub as_told : {T : Type 0} → Result → T → Left T
as_told p t = record { answer = told (delivered p.answer); store = p.store; output = p.output; also = t }

pub ported_step : {T : Type 0} {net : NetworkMagic} (z : Stream T) {x o : List ℕ} {p : Result} (t : T) → GoodOn z → Stepped net z.store z.count x o p → Step net z x (as_told p t)
unfolding told delivered taking encodings
ported_step z {o = o} t g (away r e) = record { frames = []; hands = (refl, refl, zero-le); well_formed = tt; few = zero-le; bytes = rw e (append-nil (held_of z)); fits = g.fits; same_length = refl }
ported_step z t g (header r s' k w e l m) =
    record { frames = []; hands = (refl, refl, zero-le); well_formed = tt; few = zero-le; bytes = rw (T_true (for_header r) k, e); fits = l; same_length = m }
ported_step z t g (taken fs rest s' o' a) =
    record {
      frames = fs;
      hands = (refl, sym a.delivered, a.room);
      well_formed = a.well_formed;
      few = a.limit;
      bytes = rw a.held (sym a.cut);
      fits = omega (arith, a.rest_fits, a.same_length);
      same_length = a.same_length;
    }
