-- What one push does: refused before the append, refused for a header, or accepted. Assumes nothing.
use Prim.Native.Nat.{ℕ, ◌+◌, ◌≤◌}
use mathlib.Core.Path.{◌≡◌, refl, sym, ap, ◌∙◌}
use mathlib.Core.List.{List, [], ◌++◌}
use mathlib.Core.Bool.{Bool, true, false}
use native.Mathlib.Omega.{arith}
use lib.ListN.{length, take, length-append}
use lib.Seq.{drop-append_seam}
use lib.Dec.{T}
use Rattle.hns_refusals.specs.declared.Refusal.{Refusal}
use Rattle.hns_refusals.specs.Limits.{max_stream}
use Rattle.hns_refusals.specs.Refusals.{stream_too_large, output_short, store_short, held_over}
use Rattle.hns_encoding.specs.Bytes.{Bytes}
use Rattle.hns_encoding.specs.Format.{All}
use Rattle.hns_encoding.specs.Put.{splice}
use Rattle.hns_encoding.proofs.Numbers.{bytes_drop, bytes_append}
use Rattle.hns_encoding.proofs.Puts.{length_splice}
use Rattle.hns_p2p_frame.specs.declared.NetworkMagic.{NetworkMagic}
use Rattle.hns_p2p_frame.specs.Pushed.{Accepted, Refused}
use Rattle.hns_p2p_frame.specs.Frame.{Frame, WellFormed, encodings, not_yet, front}
use Rattle.hns_p2p_frame.specs.Walk.{Walked, stopped, refused, walk}
use Rattle.hns_p2p_frame.specs.Push.{Result, needed, settled, push}
use Rattle.hns_p2p_stream.specs.Stream.{held_count, for_header, Delivers, HeaderRefused}
use Rattle.hns_p2p_frame.proofs.Slices.{take_spliced, length_held, take_held}
use Rattle.hns_p2p_frame.proofs.Walks.{WalkCut, walk_cut}
use Rattle.hns_p2p_frame.proofs.Tests.{PushTested, over, large, unstored, no_room, fits, tested}
use Rattle.hns_p2p_stream.proofs.Grown.{walk_more}
use Rattle.hns_p2p_stream.proofs.Ends.{Ended, walk_ended}

pub T_true : (b : Bool) → T b → b ≡ true
T_true true t = refl
T_true false t = absurd t

-- what holds of a stream between pushes
pub record Good (s : List ℕ) (h : ℕ) : Type 0 where
  pub fits : h ≤ length s
  pub bytes : Bytes (take h s)

-- what an accepted push found and left: the frames fs and the bytes after them, the store and the output
pub record Accepts (net : NetworkMagic) (s : List ℕ) (h : ℕ) (x : List ℕ) (fs : List Frame) (rest s' o' : List ℕ) : Type 0 where
  pub walked : walk net (take h s ++ x) ≡ stopped fs rest
  pub cut : encodings net fs ++ rest ≡ take h s ++ x
  pub well_formed : All WellFormed fs
  pub ended : front net rest ≡ not_yet
  pub held : take (length rest) s' ≡ rest
  pub same_length : length s' ≡ length s
  pub rest_fits : length rest ≤ length s
  pub delivered : take (length (encodings net fs)) o' ≡ encodings net fs
  pub room : length (encodings net fs) ≤ length o'
  pub limit : length (encodings net fs) ≤ max_stream

-- the three ways of a push
pub data Stepped (net : NetworkMagic) (s : List ℕ) (h : ℕ) (x o : List ℕ) : Result → Type 0 where
  away : (r : Refusal) → for_header r ≡ false → Stepped net s h x o (record { answer = Refused r h; store = s; output = o })
  header : (r : Refusal) (s' : List ℕ) → T (for_header r) → walk net (take h s ++ x) ≡ refused r
      → take (h + length x) s' ≡ take h s ++ x → h + length x ≤ length s' → length s' ≡ length s
      → Stepped net s h x o (record { answer = Refused r (h + length x); store = s'; output = o })
  taken : (fs : List Frame) (rest s' o' : List ℕ) → Accepts net s h x fs rest s' o'
      → Stepped net s h x o (record { answer = Accepted (length fs) (length (encodings net fs)) (length rest); store = s'; output = o' })

module _ (net : NetworkMagic) (s : List ℕ) (h : ℕ) (x o : List ℕ) where
  settles : Good s h → Bytes x → h + length x ≤ max_stream → h + length x ≤ length s → h + length x ≤ length o
      → Stepped net s h x o (settled net (walk net (take h s ++ x)) (splice s h x) (h + length x) o)
  unfolding settled
  settles g b l m n = go (walk net (take h s ++ x)) refl (walk_cut net (take h s ++ x) (bytes_append g.bytes b)) (walk_ended net (take h s ++ x))
    where
      go : (w : Walked) → walk net (take h s ++ x) ≡ w → WalkCut net (take h s ++ x) w → Ended net w
          → Stepped net s h x o (settled net w (splice s h x) (h + length x) o)
      go (stopped fs rest) e c d =
          let sum : length (encodings net fs) + length rest ≡ h + length x = sym (length-append (encodings net fs) rest) ∙ ap length c.0 ∙ length_held s h x g.fits in
          let same : length (splice s h x) ≡ length s = length_splice s h x in
          taken fs rest (splice (splice s h x) 0 rest) (splice o 0 (encodings net fs)) (record {
            walked = e;
            cut = c.0;
            well_formed = c.1;
            ended = d;
            held = take_spliced (splice s h x) rest (omega arith);
            same_length = length_splice (splice s h x) 0 rest ∙ same;
            rest_fits = omega arith;
            delivered = take_spliced o (encodings net fs) (omega arith);
            room = rw length_splice (omega arith);
            limit = omega arith;
          })
      go (refused r) e c d = header r (splice s h x) d e (take_held s h x m) (rw length_splice m) (length_splice s h x)

  pub steps : Good s h → Bytes x → Stepped net s h x o (push net s h x o)
  unfolding for_header
  steps g b = go (tested net s h x o)
    where
      go : {p : Result} → PushTested net s h x o p → Stepped net s h x o p
      go (over a) = away (held_over h) refl
      go (large a c) = away (stream_too_large (needed h x)) refl
      go (unstored a c d) = away (store_short (needed h x)) refl
      go (no_room a c d e) = away (output_short (needed h x)) refl
      go (fits a c d e) = settles g b c d e

-- a stream whose held bytes have a bad header
abbrev pub Shut : NetworkMagic → List ℕ → ℕ → Type 0
Shut net s h = (r : Refusal) × (walk net (take h s) ≡ refused r)

module _ {net : NetworkMagic} {s : List ℕ} {h : ℕ} {x o : List ℕ} where
  pub step_good : {p : Result} → Stepped net s h x o p → Good s h → Bytes x → Good p.store (held_count p.answer)
  unfolding held_count
  step_good (away r e) g b = g
  step_good (header r s' t w e l k) g b = record { fits = l; bytes = rw e (bytes_append g.bytes b) }
  step_good (taken fs rest s' o' a) g b =
      record {
        fits = omega (arith, a.rest_fits, a.same_length);
        bytes = rw (a.held, ← drop-append_seam (encodings net fs) rest, a.cut) (bytes_drop (length (encodings net fs)) (bytes_append g.bytes b));
      }

  pub step_long : {p : Result} → Stepped net s h x o p → length p.store ≡ length s
  step_long (away r e) = refl
  step_long (header r s' t w e l k) = k
  step_long (taken fs rest s' o' a) = a.same_length

  -- no header was refused: the held bytes begin with neither a whole frame nor a bad header
  pub step_open : {p : Result} → Stepped net s h x o p → front net (take h s) ≡ not_yet → ¬ HeaderRefused p.answer
      → front net (take (held_count p.answer) p.store) ≡ not_yet
  unfolding held_count HeaderRefused
  step_open (away r e) f q = f
  step_open (header r s' t w e l k) f q = absurd (q t)
  step_open (taken fs rest s' o' a) f q = rw a.held a.ended

  -- a header was refused
  pub step_shut : {p : Result} → Stepped net s h x o p → HeaderRefused p.answer → Shut net p.store (held_count p.answer)
  unfolding held_count HeaderRefused
  step_shut (away r e) q = absurd (rw e at q)
  step_shut (header r s' t w e l k) q = (r, rw e w)
  step_shut (taken fs rest s' o' a) q = absurd q

  -- and stays so
  pub step_stays : {p : Result} → Stepped net s h x o p → Shut net s h
      → Shut net p.store (held_count p.answer) × ((fs : List Frame) → Delivers net p.answer p.output fs → fs ≡ [])
  unfolding held_count Delivers
  step_stays (away r e) q = (q, λ fs d. d)
  step_stays (header r s' t w e l k) q = ((r, rw e w), λ fs d. d)
  step_stays (taken fs rest s' o' a) q =
      let m : walk net (take h s ++ x) ≡ refused q.0 = rw q.1 at (walk_more net x (take h s)) in
      absurd (cc (m, a.walked))
