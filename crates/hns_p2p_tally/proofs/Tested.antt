-- The view of a tallying push by its tests, and what its tests owe at each return, on plain lists. Assumes nothing.
use Prim.Native.Nat.{ℕ, ◌+◌, ◌≤◌, ◌<◌}
use native.Mathlib.Omega.{arith}
use mathlib.Core.Path.{◌≡◌, refl, sym, ap, ◌∙◌}
use mathlib.Core.List.{List}
use mathlib.Core.Bool.{Bool, true, false}
use Rattle.std.proofs.Math.Bool.{and-false}
use Rattle.std.proofs.lemmas.Bool.{and_parts, and_cases}
use lib.ListN.{length, get_or, take}
use Rattle.std.proofs.lemmas.List.{get_or-take}
use lib.Dec.{leb}
use borrow.Author.Tests.{le-leb, lt-leb, leb-true, leb-false}
use Rattle.hns_refusals.specs.declared.Refusal.{Refusal}
use Rattle.std.specs.Prelude.{Ok, Err}
use Rattle.hns_refusals.specs.Refusals.{Answer, output_short, tally_full}
use Rattle.hns_refusals.specs.Limits.{max_stream}
use Rattle.hns_encoding.specs.Bytes.{choose}
use Rattle.hns_encoding.proofs.Outcomes.{choose_holds, choose_leb}
use Rattle.hns_p2p_frame.specs.Push.{passing}
use Rattle.hns_p2p_frame.proofs.Tests.{Passed, passing_away, passing_taken, passed_is}
use Rattle.hns_p2p_tally.specs.Tally.{tally_size, frame_total, byte_total, most_counted, roomy, Roomy, Passes}
use mathlib.Core.Logic.{◌⊎◌, inl, inr, ⊎_elim}
use Rattle.hns_p2p_tally.specs.Tallying.{passing_all}
use Rattle.hns_p2p_tally.specs.Helpers.{room_of}

-- `away` is what a refusal gives, and p what a push gives that no test turns away
pub data AllTested {A : Type 0} (s : List ℕ) (h : ℕ) (x o t : List ℕ) (away : Refusal → A) (p : A) : A → Type 0 where
  of_push : {r : Refusal} → passing s h x o Err (Ok (h + length x)) ≡ Err r → AllTested s h x o t away p (away r)
  short : Passed s h x o → length t < tally_size → AllTested s h x o t away p (away (output_short tally_size))
  full : Passed s h x o → tally_size ≤ length t → roomy t (h + length x) ≡ false → AllTested s h x o t away p (away tally_full)
  room : Passed s h x o → tally_size ≤ length t → roomy t (h + length x) ≡ true → AllTested s h x o t away p p

module _ {A : Type 0} (s : List ℕ) (h : ℕ) (x o t : List ℕ) (away : Refusal → A) (p : A) where
  last : A
  last = choose (leb tally_size (length t)) (choose (roomy t (h + length x)) p (away tally_full)) (away (output_short tally_size))

  pub passes_all : AllTested s h x o t away p (passing_all s h x o t away p)
  unfolding passing_all last
  passes_all = go (passing s h x o Err (Ok (h + length x))) refl
    where
      go : (a : Answer ℕ) → passing s h x o Err (Ok (h + length x)) ≡ a → AllTested s h x o t away p (passing_all s h x o t away p)
      go (Err r) e = rw (passing_away s h x o refl e away last) (of_push e)
      go (Ok n) e =
          let f = (passing_taken s h x o refl e).1 in
          rw (passed_is away last f)
          (choose_leb (AllTested s h x o t away p) tally_size (length t)
          (λ a. choose_holds (AllTested s h x o t away p) (roomy t (h + length x)) (λ b. room f a b) (λ b. full f a b))
          (λ a. short f a))

  -- the other way: a case's facts say which it is
  pub passing_all_is : {q : A} → AllTested s h x o t away p q → passing_all s h x o t away p ≡ q
  unfolding passing_all last
  passing_all_is (of_push e) = passing_away s h x o refl e away last
  passing_all_is (short f a) = passed_is away last f ∙ rw (lt-leb tally_size (length t) a)
  passing_all_is (full f a b) = passed_is away last f ∙ rw (le-leb tally_size (length t) a, b)
  passing_all_is (room f a b) = passed_is away last f ∙ rw (le-leb tally_size (length t) a, b)

-- ---- the room of a tally

module _ (t : List ℕ) (n : ℕ) where
  frames_fit : Bool
  frames_fit = leb (get_or t frame_total 0 + n) most_counted

  bytes_fit : Bool
  bytes_fit = leb (get_or t byte_total 0 + n) most_counted

  pub roomy_true : tally_size ≤ length t → roomy t n ≡ true → Roomy t n
  unfolding roomy frames_fit bytes_fit
  roomy_true l e =
      let b = and_parts frames_fit bytes_fit e in
      record { size = l; frames = leb-true (get_or t frame_total 0 + n) most_counted b.0; bytes = leb-true (get_or t byte_total 0 + n) most_counted b.1 }

  both_fit : get_or t frame_total 0 + n ≤ most_counted → get_or t byte_total 0 + n ≤ most_counted → roomy t n ≡ true
  unfolding roomy
  both_fit a b = rw (le-leb (get_or t frame_total 0 + n) most_counted a, le-leb (get_or t byte_total 0 + n) most_counted b)

  pub roomy_is : Roomy t n → roomy t n ≡ true
  roomy_is r = both_fit r.frames r.bytes

  pub roomy_false : roomy t n ≡ false → Passes t n
  unfolding roomy frames_fit bytes_fit
  roomy_false e =
      ⊎_elim
      (λ a. inl (leb-false (get_or t frame_total 0 + n) most_counted a))
      (λ a. inr (leb-false (get_or t byte_total 0 + n) most_counted a))
      (and_cases frames_fit bytes_fit e)

  pub passes_is : Passes t n → roomy t n ≡ false
  unfolding roomy frames_fit bytes_fit
  passes_is =
      ⊎_elim
      (λ a. rw (lt-leb (get_or t frame_total 0 + n) most_counted a))
      (λ a. rw (lt-leb (get_or t byte_total 0 + n) most_counted a, and-false))

  -- as an answer
  pub room_full : (most_counted < get_or t frame_total 0 + n) ⊎ (most_counted < get_or t byte_total 0 + n) → Err tally_full ≡ room_of t n
  unfolding room_of
  room_full k = rw (passes_is k)

  pub room_left : get_or t frame_total 0 + n ≤ most_counted → get_or t byte_total 0 + n ≤ most_counted → Ok tt ≡ room_of t n
  unfolding room_of
  room_left a b = rw (both_fit a b)

  -- the tally's own numbers are a longer slice's first
  front_roomy : roomy (take tally_size t) n ≡ roomy t n
  unfolding roomy
  front_roomy = rw (get_or-take tally_size t frame_total 0 (omega arith), get_or-take tally_size t byte_total 0 (omega arith))

-- ---- the tests

module _ (s : List ℕ) (h : ℕ) (x o t : List ℕ) {a : Answer ℕ} (q : a ≡ passing s h x o Err (Ok (h + length x))) where
  pub takes_in_away : {r : Refusal} → a ≡ Err r → Err r ≡ passing_all s h x o t Err (Ok (h + length x))
  takes_in_away e = sym (passing_all_is s h x o t Err (Ok (h + length x)) (of_push (sym q ∙ e)))

  module _ {n : ℕ} (e : a ≡ Ok n) where
    total : n ≡ h + length x
    total = (passing_taken s h x o q e).0

    passed : Passed s h x o
    passed = (passing_taken s h x o q e).1

    -- held bytes and input are far fewer than a total may be
    pub few : n ≤ max_stream
    few = omega (arith, total, passed.stream)

    pub takes_in_short : length t < tally_size → Err (output_short tally_size) ≡ passing_all s h x o t Err (Ok (h + length x))
    takes_in_short l = sym (passing_all_is s h x o t Err (Ok (h + length x)) (short passed l))

    -- b is whether the tally's own numbers have room
    module _ (l : tally_size ≤ length t) {k : List ℕ} (i : k ≡ take tally_size t) {b : Answer (Unit {0})} (j : b ≡ room_of k n) where
      said : b ≡ room_of t (h + length x)
      unfolding room_of
      said = j ∙ rw (i, front_roomy t n, total)

      pub takes_in_full : {r : Refusal} → b ≡ Err r → Err r ≡ passing_all s h x o t Err (Ok (h + length x))
      unfolding room_of
      takes_in_full {r} f = go (roomy t (h + length x)) refl said
        where
          go : (y : Bool) → roomy t (h + length x) ≡ y → b ≡ choose y (Ok tt) (Err tally_full) → Err r ≡ passing_all s h x o t Err (Ok (h + length x))
          go true m u = absurd (cc (f, u))
          go false m u = let same : ◌≡◌ {A = Answer (Unit {0})} (Err r) (Err tally_full) = cc (f, u) in let v : r ≡ tally_full = cc in rw v (sym (passing_all_is s h x o t Err (Ok (h + length x)) (full passed l m)))

      pub takes_in_all : {u : Unit {0}} → b ≡ Ok u → Ok n ≡ passing_all s h x o t Err (Ok (h + length x))
      unfolding room_of
      takes_in_all f = go (roomy t (h + length x)) refl said
        where
          go : (y : Bool) → roomy t (h + length x) ≡ y → b ≡ choose y (Ok tt) (Err tally_full) → Ok n ≡ passing_all s h x o t Err (Ok (h + length x))
          go true m u = ap Ok total ∙ sym (passing_all_is s h x o t Err (Ok (h + length x)) (room passed l m))
          go false m u = absurd (cc (f, u))

-- ---- what the tests answered, and what a push then gives

pub record AllPassed (s : List ℕ) (h : ℕ) (x o t : List ℕ) : Type 0 where
  pub passed : Passed s h x o
  pub long : tally_size ≤ length t
  pub roomy : roomy t (h + length x) ≡ true

module _ (s : List ℕ) (h : ℕ) (x o t : List ℕ) {a : Answer ℕ} (q : a ≡ passing_all s h x o t Err (Ok (h + length x))) where
  pub away_is : {r : Refusal} → a ≡ Err r → {A : Type 0} (away : Refusal → A) (p : A) → passing_all s h x o t away p ≡ away r
  away_is {r} e away p = go (passes_all s h x o t Err (Ok (h + length x))) (sym q ∙ e)
    where
      one : {v : Refusal} → ◌≡◌ {A = Answer ℕ} (Err v) (Err r) → away v ≡ away r
      one i = ap away (cc i)

      go : {b : Answer ℕ} → AllTested s h x o t Err (Ok (h + length x)) b → b ≡ Err r → passing_all s h x o t away p ≡ away r
      go (of_push e) i = passing_all_is s h x o t away p (of_push e) ∙ one i
      go (short f l) i = passing_all_is s h x o t away p (short f l) ∙ one i
      go (full f l b) i = passing_all_is s h x o t away p (full f l b) ∙ one i
      go (room f l b) i = absurd (cc i)

  pub all_passed : {n : ℕ} → a ≡ Ok n → AllPassed s h x o t
  all_passed {n} e = go (passes_all s h x o t Err (Ok (h + length x))) (sym q ∙ e)
    where
      never : {v : Refusal} {B : Type 0} → ◌≡◌ {A = Answer ℕ} (Err v) (Ok n) → B
      never i = absurd (cc i)

      go : {b : Answer ℕ} → AllTested s h x o t Err (Ok (h + length x)) b → b ≡ Ok n → AllPassed s h x o t
      go (of_push e) i = never i
      go (short f l) i = never i
      go (full f l b) i = never i
      go (room f l b) i = record { passed = f; long = l; roomy = b }

pub all_passed_is : {A : Type 0} (s : List ℕ) (h : ℕ) (x o t : List ℕ) (away : Refusal → A) (p : A) → AllPassed s h x o t → passing_all s h x o t away p ≡ p
all_passed_is s h x o t away p k = passing_all_is s h x o t away p (room k.passed k.long k.roomy)
