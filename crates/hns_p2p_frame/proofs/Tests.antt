-- The view of a push by its tests: one constructor an end, with the facts that lead there. Assumes nothing.
use Prim.Native.Nat.{ℕ, ◌+◌, ◌≤◌, ◌<◌}
use mathlib.Core.Path.{◌≡◌, sym, ap, ◌∙◌}
use mathlib.Core.List.{List, ◌++◌}
use lib.ListN.{length, take}
use borrow.Author.Tests.{le-leb, lt-leb}
use Rattle.std.specs.Prelude.{Ok, Err}
use Rattle.hns_refusals.specs.declared.Refusal.{Refusal}
use Rattle.hns_refusals.specs.Limits.{max_stream}
use Rattle.hns_refusals.specs.Refusals.{Answer, stream_too_large, output_short, store_short, held_over}
use Rattle.hns_encoding.specs.Put.{splice}
use Rattle.hns_p2p_frame.specs.declared.NetworkMagic.{NetworkMagic}
use Rattle.hns_p2p_frame.specs.Walk.{walk}
use Rattle.hns_p2p_frame.specs.Push.{Result, needed, turned_away, settled, passing, admitted, push}
use Rattle.hns_encoding.proofs.Outcomes.{choose_leb}

-- `away` is what a refusal gives, and p what a push gives that no test turns away
pub data Tested {A : Type 0} (s : List ℕ) (h : ℕ) (x o : List ℕ) (away : Refusal → A) (p : A) : A → Type 0 where
  over : length s < h → Tested s h x o away p (away (held_over h))
  large : h ≤ length s → max_stream < h + length x → Tested s h x o away p (away (stream_too_large (needed h x)))
  unstored : h ≤ length s → h + length x ≤ max_stream → length s < h + length x → Tested s h x o away p (away (store_short (needed h x)))
  no_room : h ≤ length s → h + length x ≤ max_stream → h + length x ≤ length s → length o < h + length x → Tested s h x o away p (away (output_short (needed h x)))
  fits : h ≤ length s → h + length x ≤ max_stream → h + length x ≤ length s → h + length x ≤ length o → Tested s h x o away p p

pub passes : {A : Type 0} (s : List ℕ) (h : ℕ) (x o : List ℕ) (away : Refusal → A) (p : A) → Tested s h x o away p (passing s h x o away p)
unfolding passing
passes s h x o away p =
    choose_leb (Tested s h x o away p) h (length s)
    (λ a. choose_leb (Tested s h x o away p) (h + length x) max_stream
    (λ b. choose_leb (Tested s h x o away p) (h + length x) (length s)
    (λ c. choose_leb (Tested s h x o away p) (h + length x) (length o)
    (λ d. fits a b c d)
    (λ d. no_room a b c d))
    (λ c. unstored a b c))
    (λ b. large a b))
    (λ a. over a)

-- the other way: a case's facts say which it is
pub passing_is : {A : Type 0} {s : List ℕ} {h : ℕ} {x o : List ℕ} {away : Refusal → A} {p q : A} → Tested s h x o away p q → passing s h x o away p ≡ q
unfolding passing
passing_is {s = s} {h = h} (over a) = rw (lt-leb h (length s) a)
passing_is {s = s} {h = h} {x = x} (large a b) = rw (le-leb h (length s) a, lt-leb (h + length x) max_stream b)
passing_is {s = s} {h = h} {x = x} (unstored a b c) = rw (le-leb h (length s) a, le-leb (h + length x) max_stream b, lt-leb (h + length x) (length s) c)
passing_is {s = s} {h = h} {x = x} {o = o} (no_room a b c d) = rw (le-leb h (length s) a, le-leb (h + length x) max_stream b, le-leb (h + length x) (length s) c, lt-leb (h + length x) (length o) d)
passing_is {s = s} {h = h} {x = x} {o = o} (fits a b c d) = rw (le-leb h (length s) a, le-leb (h + length x) max_stream b, le-leb (h + length x) (length s) c, le-leb (h + length x) (length o) d)

-- ---- what `take_in` answered, and what a push then gives

pub record Passed (s : List ℕ) (h : ℕ) (x o : List ℕ) : Type 0 where
  pub held : h ≤ length s
  pub stream : h + length x ≤ max_stream
  pub store : h + length x ≤ length s
  pub output : h + length x ≤ length o

module _ (s : List ℕ) (h : ℕ) (x o : List ℕ) {a : Answer ℕ} (q : a ≡ passing s h x o Err (Ok (h + length x))) where
  pub passing_away : {r : Refusal} → a ≡ Err r → {B : Type 0} (away : Refusal → B) (p : B) → passing s h x o away p ≡ away r
  passing_away {r} e {B} away p = go (passes s h x o Err (Ok (h + length x))) (sym q ∙ e)
    where
      one : {v : Refusal} → ◌≡◌ {A = Answer ℕ} (Err v) (Err r) → away v ≡ away r
      one i = ap away (cc i)

      go : {b : Answer ℕ} → Tested s h x o Err (Ok (h + length x)) b → b ≡ Err r → passing s h x o away p ≡ away r
      go (over c) i = passing_is (over c) ∙ one i
      go (large c d) i = passing_is (large c d) ∙ one i
      go (unstored c d f) i = passing_is (unstored c d f) ∙ one i
      go (no_room c d f g) i = passing_is (no_room c d f g) ∙ one i
      go (fits c d f g) i = absurd (cc i)

  pub passing_taken : {t : ℕ} → a ≡ Ok t → (t ≡ h + length x) × Passed s h x o
  passing_taken {t} e = go (passes s h x o Err (Ok (h + length x))) (sym q ∙ e)
    where
      never : {v : Refusal} {B : Type 0} → ◌≡◌ {A = Answer ℕ} (Err v) (Ok t) → B
      never i = absurd (cc i)

      go : {b : Answer ℕ} → Tested s h x o Err (Ok (h + length x)) b → b ≡ Ok t → (t ≡ h + length x) × Passed s h x o
      go (over c) i = never i
      go (large c d) i = never i
      go (unstored c d f) i = never i
      go (no_room c d f g) i = never i
      go (fits c d f g) i = (cc i, record { held = c; stream = d; store = f; output = g })

pub passed_is : {A : Type 0} {s : List ℕ} {h : ℕ} {x o : List ℕ} (away : Refusal → A) (p : A) → Passed s h x o → passing s h x o away p ≡ p
passed_is away p f = passing_is (fits f.held f.stream f.store f.output)

-- ---- of the push itself

abbrev pub PushTested : NetworkMagic → List ℕ → ℕ → List ℕ → List ℕ → Result → Type 0
PushTested net s h x o = Tested s h x o (λ r. turned_away r s h o) (settled net (walk net (take h s ++ x)) (splice s h x) (h + length x) o)

pub tested : (net : NetworkMagic) (s : List ℕ) (h : ℕ) (x o : List ℕ) → PushTested net s h x o (push net s h x o)
unfolding push admitted
tested net s h x o = passes s h x o (λ r. turned_away r s h o) (settled net (walk net (take h s ++ x)) (splice s h x) (h + length x) o)

pub push_is : (net : NetworkMagic) {s : List ℕ} {h : ℕ} {x o : List ℕ} {q : Result} → PushTested net s h x o q → push net s h x o ≡ q
unfolding push admitted
push_is net t = passing_is t
