-- A turn of the loop that puts the lines of the frames that bytes begin with. Assumes nothing.
use Prim.Native.Nat.{ℕ, ◌+◌, ◌-◌, ◌^◌, ◌≤◌, ◌<◌}
use mathlib.Core.Path.{◌≡◌, refl, sym, ap, ap₂, ◌∙◌}
use mathlib.Core.List.{List, [], ◌∷◌, ◌++◌, append_assoc, append-nil}
use native.Mathlib.Omega.{arith}
use lib.ListN.{length, take, drop, length-drop}
use lib.Seq.{drop-drop, take_all}
use Rattle.std.specs.Prelude.{Option, Some, None}
use Rattle.std.specs.Result.{result_unwrap_or}
use Rattle.hns_refusals.specs.Refusals.{Answer}
use Rattle.hns_encoding.specs.Put.{Put}
use Rattle.hns_encoding.proofs.Puts.{then, put_none}
use Rattle.hns_p2p_frame.specs.declared.NetworkMagic.TheVariants.{Mainnet}
use Rattle.hns_p2p_frame.specs.declared.Prefix.{Prefix}
use Rattle.hns_p2p_frame.specs.Frame.{Frame, Front, not_yet, whole, bad, front, payload_of}
use Rattle.hns_p2p_frame.specs.Walk.{cut}
use Rattle.hns_p2p_frame.specs.Answers.{answered, prefix_of}
use Rattle.hns_p2p_frame.proofs.Fronts.{front_rest}
use Rattle.hns_p2p_frame.proofs.Walks.{cut_open, cut_bad, cut_frame}
use Rattle.hns_p2p_frame.proofs.Answers.{Answered}
use Rattle.survey_export.specs.Text.{line}
use Rattle.survey_export.specs.Survey.{lines}

-- the lines of the frames of s before p are put
pub record PutTo (s o : List ℕ) (q : ℕ) (o' : List ℕ) (q' p : ℕ) : Type 0 where
  pub inside : p ≤ length s
  pub done : List ℕ
  pub put : Put o q done o' q'
  pub goes : done ++ lines (cut Mainnet (drop p s)).frames ≡ lines (cut Mainnet s).frames

pub put_start : (s o : List ℕ) (q : ℕ) → q < 2 ^ 64 → PutTo s o q o q 0
put_start s o q h = record { inside = omega arith; done = []; put = put_none o q h; goes = refl }

rest_is : (s : List ℕ) (p : ℕ) → take (length s - p) (drop p s) ≡ drop p s
rest_is s p = take_all (length s - p) (drop p s) (omega (arith, length-drop p s))

-- a is the frame that the rest begins with, if it begins with one
module _ {s o : List ℕ} {q : ℕ} {o' : List ℕ} {q' p : ℕ} (w : PutTo s o q o' q' p) {d : Answer (Option Prefix)} (asked : d ≡ prefix_of (front Mainnet (take (length s - p) (drop p s)))) {a : Option Prefix} (known : a ≡ result_unwrap_or d None) where
  e : a ≡ result_unwrap_or (prefix_of (front Mainnet (drop p s))) None
  e = known ∙ rw (asked, rest_is s p)

  pub ends : a ≡ None → Put o q (lines (cut Mainnet s).frames) o' q'
  unfolding lines prefix_of
  ends k = rw (← w.goes, none (front Mainnet (drop p s)) refl, append-nil) w.put
    where
      none : (g : Front) → front Mainnet (drop p s) ≡ g → (cut Mainnet (drop p s)).frames ≡ []
      none not_yet i = rw (cut_open Mainnet (drop p s) i)
      none (bad r) i = rw (cut_bad Mainnet (drop p s) r i)
      none (whole f rest) i = let z : ◌≡◌ {A = Option Prefix} (Some (answered f)) None = cc (k, rw i at e) in cc

  module _ {f : Prefix} (h : a ≡ Some f) where
    seen : Answered f (front Mainnet (drop p s))
    unfolding prefix_of
    seen = go (front Mainnet (drop p s)) refl
      where
        go : (g : Front) → front Mainnet (drop p s) ≡ g → Answered f (front Mainnet (drop p s))
        go not_yet i = let z : ◌≡◌ {A = Option Prefix} (Some f) None = cc (h, rw i at e) in cc
        go (bad r) i = let z : ◌≡◌ {A = Option Prefix} (Some f) None = cc (h, rw i at e) in cc
        go (whole g rest) i = record { frame = g; rest = rest; is = i; by = cc (h, rw i at e) }

    -- a frame has bytes
    pub gains : 0 < f.taken
    gains = omega (arith, ap (λ (k : Prefix). k.taken) seen.by)

    -- a frame's line more
    pub goes_on : length o < 2 ^ 64 → {x : List ℕ} → x ≡ payload_of (front Mainnet (take (length s - p) (drop p s))) → {o₂ : List ℕ} {q₂ : ℕ} → Put o' q' (line f.packet_type x) o₂ q₂ → PutTo s o q o₂ q₂ (p + f.taken)
    unfolding lines payload_of
    goes_on room {x} part put =
        let v = seen in
        let g = v.frame in
        let r = front_rest Mainnet (drop p s) g v.rest v.is in
        let took : f.taken ≡ 9 + length g.payload = ap (λ (k : Prefix). k.taken) v.by in
        let next : v.rest ≡ drop (p + f.taken) s = r.0 ∙ rw drop-drop (ap (λ (k : ℕ). drop (p + k) s) (sym took)) in
        let turn : (cut Mainnet (drop p s)).frames ≡ g ∷ (cut Mainnet (drop (p + f.taken) s)).frames = rw (cut_frame Mainnet (drop p s) g v.rest v.is, next) in
        let same : line f.packet_type x ≡ line g.packet_type g.payload = ap₂ line (ap (λ (k : Prefix). k.packet_type) v.by) (part ∙ rw (rest_is s p, v.is)) in
        record {
          inside = omega (arith, r.1, length-drop p s, w.inside, took);
          done = w.done ++ line g.packet_type g.payload;
          put = then room w.put (rw same at put);
          goes = append_assoc w.done (line g.packet_type g.payload) (lines (cut Mainnet (drop (p + f.taken) s)).frames) ∙ (sym (ap (λ (fs : List Frame). w.done ++ lines fs) turn) ∙ w.goes);
        }
