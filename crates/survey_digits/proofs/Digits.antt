-- How the loops over digits meet the definitions. Assumes nothing.
use Rattle.std.proofs.Common.{◌≡◌, ℕ, zero, suc, ◌+◌, ◌*◌, ◌/◌, ◌%◌, ◌^◌, ◌≤◌, ◌<◌, List, [], ◌∷◌, ◌++◌, length, take, get_or, refl, sym, ◌∙◌, arith, add-one}
use Rattle.std.specs.Prelude.{slice_set}
use mathlib.Core.List.{append_assoc}
use native.Mathlib.Nat.{pow-suc}
use lib.ListN.{drop, set, length-set}
use lib.Seq.{take-suc, drop-cons, get_or-set_same, drop-set-lt}
use borrow.Author.Tests.{le-ltb, lt-ltb}
use Rattle.hns_encoding.specs.Put.{Put, advance}
use Rattle.hns_encoding.proofs.Puts.{then, put_none, splice_cons, splice_byte}
use Rattle.survey_digits.specs.Digits.{digit, hex, decimal_up_to, decimal}

-- ---- the formula

pub digit_low : (d : ℕ) → d < 10 → digit d ≡ 48 + d
unfolding digit
digit_low d h = rw (lt-ltb _ _ h)

pub digit_high : (d : ℕ) → 10 ≤ d → digit d ≡ 87 + d
unfolding digit
digit_high d h = rw (le-ltb _ _ h)

-- ---- a turn of the loops over bytes

hex_append : (x y : List ℕ) → hex (x ++ y) ≡ hex x ++ hex y
unfolding hex
hex_append [] y = refl
hex_append (b ∷ x) y = rw (hex_append x y)

pub hex_start : (o : List ℕ) (p q : ℕ) → q ≡ p → p < 2 ^ 64 → Put o p (hex []) o q
unfolding hex
hex_start o p q e h = rw e (put_none o p h)

-- the digits of one byte more by a put
pub hex_turn : {o : List ℕ} {p : ℕ} {o₁ : List ℕ} {p₁ : ℕ} {o₂ : List ℕ} {p₂ : ℕ} (s : List ℕ) (i : ℕ) {a b : ℕ} → length o < 2 ^ 64 → i < length s
    → a ≡ digit (get_or s i 0 / 16) → b ≡ digit (get_or s i 0 % 16)
    → Put o p (hex (take i s)) o₁ p₁ → Put o₁ p₁ (a ∷ b ∷ []) o₂ p₂ → Put o p (hex (take (i + 1) s)) o₂ p₂
unfolding hex
hex_turn s i h l high low so_far put = rw (add-one, take-suc s i 0 l, hex_append, ← high, ← low) (then h so_far put)

-- the same by two stores
put_two : (o : List ℕ) (p a b : ℕ) → p + 2 < 2 ^ 64 → Put o p (a ∷ b ∷ []) (slice_set (slice_set o p a) (p + 1) b) (p + 2)
unfolding advance
put_two o p a b h = record { next = omega arith; bytes = sym (splice_cons o p a (b ∷ []) ∙ splice_byte (slice_set o p a) (p + 1) b) }

pub set_turn : {o o₁ : List ℕ} (s : List ℕ) (p i : ℕ) {a b : ℕ} → length o < 2 ^ 64 → i < length s → p + 2 * (i + 1) < 2 ^ 64
    → a ≡ digit (get_or s i 0 / 16) → b ≡ digit (get_or s i 0 % 16)
    → Put o p (hex (take i s)) o₁ (p + 2 * i) → Put o p (hex (take (i + 1) s)) (slice_set (slice_set o₁ (p + 2 * i) a) (p + 2 * i + 1) b) (p + 2 * (i + 1))
set_turn {o₁ = o₁} s p i {a} {b} h l room high low so_far =
    let next : p + 2 * i + 2 ≡ p + 2 * (i + 1) = omega arith in
    rw next at (hex_turn s i h l high low so_far (put_two o₁ (p + 2 * i) a b (omega arith)))

-- ---- turns of the loop over decimal digits

drop_set : (text : List ℕ) (i d : ℕ) → i < length text → drop i (set text i d) ≡ d ∷ drop (i + 1) text
drop_set text i d l = drop-cons (set text i d) i 0 (rw length-set l) ∙ rw (get_or-set_same text i d 0 l, drop-set-lt (suc i) text i d (omega arith), add-one)

decimal_last : (k n : ℕ) → n < 10 → decimal_up_to (suc k) n ≡ (48 + n) ∷ []
unfolding decimal_up_to
decimal_last k n h = simp (lt-ltb _ _ h)

-- while more than one digit is left, there is a place for it
pub rest_turn : (i rest : ℕ) → 10 ≤ rest → rest < 10 ^ (i + 1) → (0 < i) × (rest / 10 < 10 ^ i)
rest_turn zero rest h k = absurd (omega arith)
rest_turn (suc i) rest h k = let bound : rest < 10 ^ suc i * 10 = rw (add-one, pow-suc) at k in (omega arith, omega arith)

pub decimal_turn : (i n rest : ℕ) (text : List ℕ) {d : ℕ} → 10 ≤ rest → i < length text → d ≡ 48 + rest % 10
    → decimal_up_to (i + 1) rest ++ drop (i + 1) text ≡ decimal n → decimal_up_to i (rest / 10) ++ drop i (set text i d) ≡ decimal n
unfolding decimal_up_to
decimal_turn i n rest text {d} h l e so_far =
    let more : decimal_up_to (i + 1) rest ≡ decimal_up_to i (rest / 10) ++ (d ∷ []) = rw (add-one, e) (simp (le-ltb _ _ h)) in
    rw (drop_set text i d l, ← append_assoc (decimal_up_to i (rest / 10)) (d ∷ []) (drop (i + 1) text), ← more) so_far

-- at the end the last digit goes before those in the text
pub decimal_end : (i n rest : ℕ) (text : List ℕ) {d : ℕ} → rest < 10 → i < length text → d ≡ 48 + rest
    → decimal_up_to (i + 1) rest ++ drop (i + 1) text ≡ decimal n → drop i (set text i d) ≡ decimal n
decimal_end i n rest text {d} h l e so_far =
    let last : decimal_up_to (i + 1) rest ≡ d ∷ [] = rw (add-one, e) (decimal_last i rest h) in
    rw (drop_set text i d l) (rw last at so_far)
