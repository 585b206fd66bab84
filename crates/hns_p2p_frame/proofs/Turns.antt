-- One turn of the loop that walks frames, on plain lists. Assumes nothing.
use Prim.Native.Nat.{ℕ, ◌+◌, ◌-◌, ◌≤◌, ◌<◌, zero-le}
use native.Mathlib.Nat.{add-zero, zero-add}
use native.Mathlib.Omega.{arith}
use mathlib.Core.Path.{◌≡◌, refl, sym, ap, ap₂, ◌∙◌}
use mathlib.Core.List.{List}
use lib.ListN.{length, take, drop, length-append, length-drop}
use lib.Seq.{drop-drop, take_all}
use Rattle.std.specs.Prelude.{Option, Some, None, Ok, Err}
use Rattle.hns_refusals.specs.declared.Refusal.{Refusal}
use Rattle.hns_refusals.specs.Refusals.{Answer}
use Rattle.hns_p2p_frame.specs.declared.NetworkMagic.{NetworkMagic}
use Rattle.hns_p2p_frame.specs.declared.Prefix.{Prefix}
use Rattle.hns_p2p_frame.specs.declared.Frames.{Frames}
use Rattle.hns_p2p_frame.specs.Frame.{Frame, encoding, encodings, front}
use Rattle.hns_p2p_frame.specs.Walk.{Walked, stopped, refused, walk}
use Rattle.hns_p2p_frame.specs.Answers.{prefix_of}
use Rattle.hns_p2p_frame.specs.Helpers.{walk_of}
use Rattle.hns_p2p_frame.proofs.Fronts.{front_rest}
use Rattle.hns_p2p_frame.proofs.Walks.{also, onward, walk_turn, length_encoding}
use Rattle.hns_p2p_frame.proofs.Answers.{front_not_yet, front_bad, front_whole}

-- ---- a walk as far as a place

abbrev pub counted : ℕ → ℕ → Frames
counted n b = record { frames = n; bytes = b }

-- n frames of b bytes before those that a walk found
abbrev pub added : ℕ → ℕ → Answer Frames → Answer Frames
added n b (Ok w) = Ok (counted (n + w.frames) (b + w.bytes))
added n b (Err r) = Err r

-- n frames of s are walked, and p is the place after them
pub record WalkedTo (net : NetworkMagic) (s : List ℕ) (n p : ℕ) : Type 0 where
  pub inside : p ≤ length s
  pub few : n ≤ p
  pub goes : walk_of net (walk net s) ≡ added n p (walk_of net (walk net (drop p s)))

same_walk : {n m b c : ℕ} → n ≡ m → b ≡ c → ◌≡◌ {A = Answer Frames} (Ok (counted n b)) (Ok (counted m c))
same_walk e f = ap₂ (λ (x y : ℕ). Ok (counted x y)) e f

added_none : (w : Answer Frames) → added 0 0 w ≡ w
added_none (Ok w) = same_walk (zero-add w.frames) (zero-add w.bytes)
added_none (Err r) = refl

pub walked_start : (net : NetworkMagic) (s : List ℕ) → WalkedTo net s 0 0
walked_start net s = record { inside = zero-le; few = zero-le; goes = sym (added_none (walk_of net (walk net s))) }

-- one frame more at the front of a walk
added_one : (net : NetworkMagic) (f : Frame) (w : Walked) → walk_of net (also f w) ≡ added 1 (9 + length f.payload) (walk_of net w)
unfolding walk_of also encodings
added_one net f (stopped fs rest) =
    same_walk (omega arith) (length-append (encoding net f) (encodings net fs) ∙ ap (λ (k : ℕ). k + length (encodings net fs)) (length_encoding net f))
added_one net f (refused r) = refl

added_added : (n b m c : ℕ) (w : Answer Frames) → added n b (added m c w) ≡ added (n + m) (b + c) w
added_added n b m c (Ok w) = same_walk (omega arith) (omega arith)
added_added n b m c (Err r) = refl

-- a is what the front of the rest was answered to be
module _ {net : NetworkMagic} {s : List ℕ} {n p : ℕ} (w : WalkedTo net s n p) {a : Answer (Option Prefix)} (q : a ≡ prefix_of (front net (take (length s - p) (drop p s)))) where
  asked : a ≡ prefix_of (front net (drop p s))
  asked = q ∙ rw (take_all (length s - p) (drop p s) (omega (arith, length-drop p s)))

  pub turn_stops : a ≡ Ok None → Ok (counted n p) ≡ walk_of net (walk net s)
  unfolding walk_of onward encodings
  turn_stops e = sym (w.goes ∙ rw (walk_turn net (drop p s), front_not_yet (front net (drop p s)) asked e, add-zero n, add-zero p))

  pub turn_refuses : {r : Refusal} → a ≡ Err r → Err r ≡ walk_of net (walk net s)
  unfolding walk_of onward
  turn_refuses e = sym (w.goes ∙ rw (walk_turn net (drop p s), front_bad (front net (drop p s)) asked e))

  module _ {o : Option Prefix} {x : Prefix} (is : a ≡ Ok o) (some : o ≡ Some x) where
    e : a ≡ Ok (Some x)
    e = is ∙ ap Ok some

    -- a frame has bytes
    pub turn_gains : 0 < x.taken
    turn_gains = let v = front_whole (front net (drop p s)) asked e in omega (arith, ap (λ (y : Prefix). y.taken) v.by)

    pub turn_goes : WalkedTo net s (n + 1) (p + x.taken)
    unfolding onward
    turn_goes =
        let v = front_whole (front net (drop p s)) asked e in
        let f = v.frame in
        let r = front_rest net (drop p s) f v.rest v.is in
        let took : 9 + length f.payload ≡ x.taken = sym (ap (λ (y : Prefix). y.taken) v.by) in
        let d : v.rest ≡ drop (p + x.taken) s = r.0 ∙ rw (took, drop-drop) in
        record {
          inside = omega (arith, r.1, length-drop p s, w.inside, took);
          few = omega (arith, w.few, took);
          goes = w.goes ∙ rw (walk_turn net (drop p s), v.is, added_one net f (walk net v.rest), added_added n p 1 (9 + length f.payload) (walk_of net (walk net v.rest)), took, d);
        }

    pub turn_within : p + x.taken ≤ length s
    turn_within = turn_goes.inside
