-- How a prefix's answer follows from the tests that it makes, and what it says of the front. Assumes nothing.
use Prim.Native.Nat.{ℕ, ◌+◌, ◌-◌, ◌≤◌, ◌<◌}
use mathlib.Core.Path.{◌≡◌, refl, sym, ap, ◌∙◌}
use mathlib.Core.List.{List, []}
use mathlib.Core.Bool.{Bool, true, false, not}
use native.Mathlib.Omega.{arith}
use lib.ListN.{length, get_or, take, length-drop}
use lib.Dec.{eqb}
use lib.Pointwise.{pointwise}
use borrow.Author.Tests.{le-leb, lt-leb, not-true, not-false}
use Rattle.std.specs.Cmp.Lexicographic.{same_text, other_text}
use Rattle.std.specs.Prelude.{Option, Some, None, Ok, Err}
use Rattle.hns_refusals.specs.declared.Refusal.{Refusal}
use Rattle.hns_refusals.specs.Limits.{max_payload}
use Rattle.hns_refusals.specs.Refusals.{Answer, magic_mismatch, payload_too_large, incomplete_frame}
use Rattle.hns_encoding.specs.Bytes.{le, choose, part, got, stop, number_at, raw_at, end_at}
use Rattle.hns_encoding.specs.Answers.{finished_of}
use Rattle.hns_encoding.proofs.Numbers.{part_length}
use Rattle.hns_encoding.proofs.Reading.{number_there, raw_there}
use Rattle.hns_p2p_frame.specs.declared.NetworkMagic.{NetworkMagic}
use Rattle.hns_p2p_frame.specs.declared.Prefix.{Prefix}
use Rattle.hns_p2p_frame.specs.Frame.{magic, Frame, Front, not_yet, whole, bad, payload_length, front, payload_of, missing, exactly, decode_exact}
use Rattle.hns_p2p_frame.specs.Conditions.{few, wrong, long, begun, full}
use Rattle.hns_p2p_frame.specs.Answers.{answered, prefix_of, exact_of}
use Rattle.hns_p2p_frame.proofs.Fronts.{front_is, front_rest, front_payload}

-- ---- the tests of a prefix: `found` are its first four bytes, b is whether they are other than the magic m, and v the payload length that they say

pub few_is : (net : NetworkMagic) (xs : List ℕ) → length xs < 9 → Ok None ≡ prefix_of (front net xs)
unfolding prefix_of
few_is net xs h = rw (front_is {net = net} {xs = xs} (few h))

module _ (net : NetworkMagic) (xs : List ℕ) {m found : List ℕ} {b : Bool} (nine : 9 ≤ length xs) (e : m ≡ magic net) (f : found ≡ raw_at 4 xs 0) (g : b ≡ not (pointwise eqb found m)) where
  are : found ≡ take 4 xs
  are = f ∙ raw_there 4 xs 0 (omega arith)

  pub wrong_is : b ≡ true → {w v : ℕ} → w ≡ le (magic net) → v ≡ number_at 4 xs 0 → Err (magic_mismatch w v) ≡ prefix_of (front net xs)
  unfolding prefix_of
  wrong_is t c d =
      let differ = other_text found m (sym (not-true (pointwise eqb found m) (sym g ∙ t))) in
      rw (front_is {net = net} {xs = xs} (wrong nine (λ q. differ (are ∙ q ∙ sym e))), c, d, number_there 4 xs 0 (omega arith))

  module _ {v : ℕ} (t : b ≡ false) (c : v ≡ number_at 4 xs 5) where
    good : take 4 xs ≡ magic net
    good = sym are ∙ same_text found m (sym (not-false (pointwise eqb found m) (sym g ∙ t))) ∙ e

    says : v ≡ payload_length xs
    unfolding payload_length
    says = c ∙ number_there 4 xs 5 (omega arith)

    pub long_is : max_payload < v → Err (payload_too_large v) ≡ prefix_of (front net xs)
    unfolding prefix_of
    long_is h = rw (front_is {net = net} {xs = xs} (long nine good (omega (arith, says))), says)

    pub begun_is : v ≤ max_payload → length xs < 9 + v → Ok None ≡ prefix_of (front net xs)
    unfolding prefix_of
    begun_is h k = rw (front_is {net = net} {xs = xs} (begun nine good (omega (arith, says)) (omega (arith, says))))

    pub full_is : {k : ℕ} → k ≡ get_or xs 4 0 → v ≤ max_payload → 9 + v ≤ length xs → Ok (Some (record { packet_type = k; length = v; taken = 9 + v })) ≡ prefix_of (front net xs)
    unfolding prefix_of
    full_is t h l =
        let n : payload_length xs ≤ length xs - 9 = omega (arith, says) in
        rw (front_is {net = net} {xs = xs} (full nine good (omega (arith, says)) (omega (arith, says))), part_length xs 9 (payload_length xs) n, says, t)

-- ---- what an answer says of the front

pub front_not_yet : (g : Front) {p : Answer (Option Prefix)} → p ≡ prefix_of g → p ≡ Ok None → g ≡ not_yet
unfolding prefix_of
front_not_yet not_yet q e = refl
front_not_yet (whole f rest) q e = cc
front_not_yet (bad r) q e = cc

pub front_bad : (g : Front) {p : Answer (Option Prefix)} {r : Refusal} → p ≡ prefix_of g → p ≡ Err r → g ≡ bad r
unfolding prefix_of
front_bad not_yet q e = cc
front_bad (whole f rest) q e = cc
front_bad (bad r) q e = cc

-- the frame that an answer is of
pub record Answered (p : Prefix) (g : Front) : Type 0 where
  pub frame : Frame
  pub rest : List ℕ
  pub is : g ≡ whole frame rest
  pub by : p ≡ answered frame

pub front_whole : (g : Front) {a : Answer (Option Prefix)} {p : Prefix} → a ≡ prefix_of g → a ≡ Ok (Some p) → Answered p g
unfolding prefix_of
front_whole not_yet q e = absurd (cc)
front_whole (whole f rest) q e = record { frame = f; rest = rest; is = refl; by = cc }
front_whole (bad r) q e = absurd (cc)

-- ---- how many bytes are missing

pub few_missing : (xs : List ℕ) → length xs < 9 → 9 - length xs ≡ missing xs
unfolding missing
few_missing xs h = rw (lt-leb _ _ h)

pub rest_missing : (xs : List ℕ) (v : ℕ) → 9 ≤ length xs → v ≡ number_at 4 xs 5 → 9 + v - length xs ≡ missing xs
unfolding missing payload_length
rest_missing xs v h e = rw (le-leb _ _ h, e, number_there 4 xs 5 (omega arith))

-- ---- exactly one frame

-- p, where the end is there
abbrev pub up_to_end : Answer (Unit {0}) → Prefix → Answer Prefix
up_to_end (Ok u) p = Ok p
up_to_end (Err r) p = Err r

module _ (net : NetworkMagic) (xs : List ℕ) {a : Answer (Option Prefix)} (q : a ≡ prefix_of (front net xs)) where
  pub exact_bad : {r : Refusal} → a ≡ Err r → Err r ≡ exact_of (decode_exact net xs)
  unfolding decode_exact exactly exact_of
  exact_bad e = rw (front_bad (front net xs) q e)

  pub exact_missing : {n : ℕ} → a ≡ Ok None → n ≡ missing xs → Err (incomplete_frame n) ≡ exact_of (decode_exact net xs)
  unfolding decode_exact exactly exact_of
  exact_missing e m = rw (front_not_yet (front net xs) q e, m)

  module _ {p : Prefix} (e : a ≡ Ok (Some p)) {b : Answer (Unit {0})} (f : b ≡ finished_of (end_at xs p.taken)) where
    -- bytes after the frame are bytes after what it took
    ends : exact_of (decode_exact net xs) ≡ up_to_end (finished_of (end_at xs p.taken)) p
    unfolding decode_exact exactly exact_of finished_of end_at
    ends = let v = front_whole (front net xs) q e in go v.frame v.rest v.is v.by
      where
        by_end : (f : Frame) (t : ℕ) (b : Bool) (r : Refusal) → exact_of (choose b (got f (length xs)) (stop r)) ≡ up_to_end (finished_of (choose b (got tt t) (stop r))) (answered f)
        by_end f t true r = refl
        by_end f t false r = refl

        go : (f : Frame) (rest : List ℕ) → front net xs ≡ whole f rest → p ≡ answered f → exact_of (decode_exact net xs) ≡ up_to_end (finished_of (end_at xs p.taken)) p
        go f rest is by =
            let after : length rest ≡ length xs - p.taken = ap length (front_rest net xs f rest is).0 ∙ rw (by, length-drop) in
            rw (is, after, by) (by_end f _ (eqb (length xs - (9 + length f.payload)) 0) _)

    pub exact_left : {r : Refusal} → b ≡ Err r → Err r ≡ exact_of (decode_exact net xs)
    exact_left g = sym (ends ∙ rw (← f, g))

    pub exact_one : b ≡ Ok tt → Ok p ≡ exact_of (decode_exact net xs)
    exact_one g = sym (ends ∙ rw (← f, g))

-- ---- the payload of the frame at the front

module _ (net : NetworkMagic) (xs : List ℕ) {a : Answer (Option Prefix)} (q : a ≡ prefix_of (front net xs)) where
  pub payload_not_yet : a ≡ Ok None → [] ≡ payload_of (front net xs)
  unfolding payload_of
  payload_not_yet e = rw (front_not_yet (front net xs) q e)

  pub payload_bad : {r : Refusal} → a ≡ Err r → [] ≡ payload_of (front net xs)
  unfolding payload_of
  payload_bad e = rw (front_bad (front net xs) q e)

  module _ {p : Prefix} (e : a ≡ Ok (Some p)) where
    took : (f : Frame) → p ≡ answered f → 9 + length f.payload ≡ p.taken
    took f g = sym (ap (λ (y : Prefix). y.taken) g)

    pub payload_within : (9 ≤ p.taken) × (p.taken ≤ length xs)
    payload_within =
        let v = front_whole (front net xs) q e in
        (omega (arith, took v.frame v.by), omega (arith, took v.frame v.by, (front_rest net xs v.frame v.rest v.is).1))

    pub payload_whole : part xs 9 (p.taken - 9) ≡ payload_of (front net xs)
    unfolding payload_of
    payload_whole =
        let v = front_whole (front net xs) q e in
        let s : p.taken - 9 ≡ length v.frame.payload = omega (arith, took v.frame v.by) in
        rw (v.is, s) (sym (front_payload net xs v.frame v.rest v.is))
