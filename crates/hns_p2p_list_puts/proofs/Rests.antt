-- Loops of puts: whoever puts the rest has put the whole. Assumes nothing.
use Prim.Native.Nat.{ℕ, ◌+◌, ◌≤◌, ◌<◌, ◌^◌}
use mathlib.Core.Path.{◌≡◌, refl, ◌∙◌}
use mathlib.Core.List.{List, [], ◌++◌}
use native.Mathlib.Omega.{arith}
use native.Mathlib.Numerals.{add-one}
use lib.ListN.{length, get_or, drop, drop_of_length-le}
use lib.Seq.{drop-cons}
use Rattle.hns_encoding.specs.Format.{write_all}
use Rattle.hns_encoding.specs.Put.{Put, advance}
use Rattle.hns_encoding.proofs.Puts.{then, put_length, put_none}

-- of the put of x₀ at p₀ the put of x at p is left; the output's length and the cursor are of a usize
pub record Rest (o₀ : List ℕ) (p₀ : ℕ) (x₀ : List ℕ) (o : List ℕ) (p : ℕ) (x : List ℕ) : Type 0 where
  pub long : length o ≡ length o₀
  pub lent : length o₀ < 2 ^ 64
  pub cursor : p < 2 ^ 64
  pub whole : (o' : List ℕ) (p' : ℕ) → Put o p x o' p' → Put o₀ p₀ x₀ o' p'

pub all_left : (o : List ℕ) (p : ℕ) {x y : List ℕ} → x ≡ y → length o < 2 ^ 64 → p < 2 ^ 64 → Rest o p x o p y
all_left o p e h k = record { long = refl; lent = h; cursor = k; whole = λ o' p' put. rw e put }

pub one_put : {o₀ : List ℕ} {p₀ : ℕ} {x₀ o : List ℕ} {p : ℕ} {x y z o₁ : List ℕ} {p₁ : ℕ} → Rest o₀ p₀ x₀ o p x → x ≡ y ++ z → Put o p y o₁ p₁ → Rest o₀ p₀ x₀ o₁ p₁ z
unfolding advance
one_put rest e a =
    record {
      long = put_length a ∙ rest.long;
      lent = rest.lent;
      cursor = omega (arith, a.next);
      whole = λ o' p' put. rest.whole o' p' (rw e (then (rw rest.long rest.lent) a put));
    }

pub none_left : {o₀ : List ℕ} {p₀ : ℕ} {x₀ o : List ℕ} {p : ℕ} {x : List ℕ} → Rest o₀ p₀ x₀ o p x → x ≡ [] → Put o₀ p₀ x₀ o p
none_left {o = o} {p = p} rest e = rest.whole o p (rw e (put_none o p rest.cursor))

-- ---- a loop that puts what it makes of each element of a list

module _ {A : Type 0} (g : A → List ℕ) (o : List ℕ) (p : ℕ) (xs : List A) where
  -- before the turn of element i the output is ys and the cursor stands at k
  abbrev pub Turn : ℕ → List ℕ → ℕ → Type 0
  Turn i ys k = Rest o p (write_all g xs) ys k (write_all g (drop i xs))

  pub first_turn : length o < 2 ^ 64 → p < 2 ^ 64 → Turn 0 o p
  first_turn h k = all_left o p refl h k

  pub next_turn : {i k k' : ℕ} {ys ys' : List ℕ} → Turn i ys k → (d : A) → i < length xs → Put ys k (g (get_or xs i d)) ys' k' → Turn (i + 1) ys' k'
  next_turn {i = i} rest d h put =
      let here : write_all g (drop i xs) ≡ g (get_or xs i d) ++ write_all g (drop (i + 1) xs) = rw (add-one i, drop-cons xs i d h) in
      one_put rest here put

  pub last_turn : {i k : ℕ} {ys : List ℕ} → Turn i ys k → length xs ≤ i → Put o p (write_all g xs) ys k
  last_turn {i = i} rest h = let none : drop i xs ≡ [] = drop_of_length-le xs {i = i} h in none_left rest (rw none)
