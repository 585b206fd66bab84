-- What two fills leave of a long case. Assumes nothing.
use Rattle.std.proofs.Common.{◌≡◌, ℕ, ◌+◌, ◌-◌, ◌<◌, ◌≤◌, ◌⊎◌, List, ◌++◌, length, get_or, take, drop, inl, inr, ap, length-drop, ◌∙◌, arith, rules}
use Rattle.std.specs.Prelude.{min, replicate}
use borrow.Rule.Slice.PartMut.{put_mid}
use Rattle.std.proofs.lemmas.List.{places, ext_get_or}
use mathlib.Core.Logic.{⊎_elim}
use lib.ListN.{get_or-eq_default}
use Rattle.std.proofs.lemmas.Slice.{take-put_mid}
use Rattle.hns_encoding.proofs.Numbers.{lt_or_ge}
use Rattle.case_input.specs.Zeros.{Zeros, Around, long_case}

-- zeros up to a place and from an end to a size, as far as there are bytes
module _ (o : List ℕ) (p e n : ℕ) {p' n' e' : ℕ} (is-p : p' ≡ min p (length o)) (is-n : n' ≡ min n (length o)) (is-e : e' ≡ min e n') (around : Around o p e n) where
  zero_there : (k : ℕ) → p' ≤ k → (k < e') ⊎ (n' ≤ k) → get_or o k 0 ≡ 0
  zero_there k l w =
      ⊎_elim
      (λ h. around k (omega arith) (⊎_elim (λ f. inl (omega arith)) (λ g. inr (omega arith)) w))
      (λ h. get_or-eq_default o 0 h)
      (lt_or_ge k (length o))

  pub cleared : Zeros (put_mid e' (n' - e') (replicate p' 0 ++ drop p' o) (replicate (n' - e') 0))
  cleared k = go (lt_or_ge k p') (lt_or_ge k e') (lt_or_ge k n')
    where
      inside : (p' ≤ length o) × ((e' ≤ n') × (n' ≤ length o))
      inside = (omega arith, (omega arith, omega arith))

      go : (k < p') ⊎ (p' ≤ k) → (k < e') ⊎ (e' ≤ k) → (k < n') ⊎ (n' ≤ k) → get_or (put_mid e' (n' - e') (replicate p' 0 ++ drop p' o) (replicate (n' - e') 0)) k 0 ≡ 0
      go (inl l) (inl f) g = search (rules, places)
      go (inl l) (inr f) (inl g) = search (rules, places)
      go (inl l) (inr f) (inr g) = search (rules, places)
      go (inr l) (inl f) g = let z : get_or o k 0 ≡ 0 = zero_there k l (inl f) in search (rules, places)
      go (inr l) (inr f) (inl g) = search (rules, places)
      go (inr l) (inr f) (inr g) = let z : get_or o k 0 ≡ 0 = zero_there k l (inr g) in search (rules, places)

-- ---- what a long case holds

zeros_behind : (front o : List ℕ) (e : ℕ) → length front ≤ e → e ≤ length o → Zeros o → take e (front ++ drop (length front) o) ≡ front ++ replicate (e - length front) 0
zeros_behind front o e a b z = ext_get_or 0 _ _ (search (rules, places)) (λ k h. go k h (lt_or_ge k (length front)))
  where
    go : (k : ℕ) → k < length (take e (front ++ drop (length front) o)) → (k < length front) ⊎ (length front ≤ k) → get_or (take e (front ++ drop (length front) o)) k 0 ≡ get_or (front ++ replicate (e - length front) 0) k 0
    go k h (inl l) = search (rules, places)
    go k h (inr l) = let zero : get_or o k 0 ≡ 0 = z k in search (rules, places)

long_is : (given : List ℕ) (before zeros room start e more : ℕ) → start ≡ min before room → e ≡ start + min zeros (room - start) → more ≡ min (length given - before) (room - e)
    → (take start given ++ replicate (e - length (take start given)) 0) ++ take more (drop before given) ≡ long_case given before zeros room
unfolding long_case
long_is given p z n start e more f g h = ext_get_or 0 _ _ (search (rules, places)) (λ k l. go k l (lt_or_ge k start) (lt_or_ge k (length given)) (lt_or_ge k e))
  where
    go : (k : ℕ) → k < length ((take start given ++ replicate (e - length (take start given)) 0) ++ take more (drop p given)) → (k < start) ⊎ (start ≤ k) → (k < length given) ⊎ (length given ≤ k) → (k < e) ⊎ (e ≤ k)
        → get_or ((take start given ++ replicate (e - length (take start given)) 0) ++ take more (drop p given)) k 0 ≡ get_or (take n (take p given ++ (replicate (p - length given + z) 0 ++ drop p given))) k 0
    go k l (inl a) (inl b) c = search (rules, places)
    go k l (inl a) (inr b) c = search (rules, places)
    go k l (inr a) b (inl c) = search (rules, places)
    go k l (inr a) (inl b) (inr c) = search (rules, places)
    go k l (inr a) (inr b) (inr c) = search (rules, places)

-- the bytes that two copies put into zeros
pub placed : (given o front rest copied after : List ℕ) (before zeros start between more : ℕ) → start ≡ min before (length o) → between ≡ min zeros (length o - start) → rest ≡ drop before given → more ≡ min (length rest) (length o - (start + between))
    → front ≡ take start given → copied ≡ front → after ≡ take more rest → Zeros o
    → take (start + between + more) (put_mid (start + between) (start + between + more - (start + between)) (copied ++ drop (length front) o) after) ≡ long_case given before zeros (length o)
placed given o front rest copied after p z start between more f g r h is same last all =
    let e = start + between in
    let size : e + more - e ≡ more = omega arith in
    let k : more ≡ min (length given - p) (length o - e) = rw (r, length-drop) at h in
    rw (same, last, is, r, size) (take-put_mid e more (take start given ++ drop (length (take start given)) o) (take more (drop p given)) (e + more) (search (rules, places)) (search (rules, places))
    ∙ ap (λ t. t ++ take more (drop p given)) (zeros_behind (take start given) o e (search (rules, places)) (search (rules, places)) all)
    ∙ long_is given p z (length o) start e more f (ap (λ t. start + t) g) k)
