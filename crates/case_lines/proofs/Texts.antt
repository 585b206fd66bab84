-- What a loop has printed, one item on. Assumes nothing.
use Rattle.std.proofs.Common.{◌≡◌, ℕ, ◌+◌, ◌<◌, List, [], ◌∷◌, ◌++◌, length, get_or, take, sym, ap, ◌∙◌, append_assoc, append-nil}
use Rattle.std.proofs.Math.Seq.{take-suc}
use native.Mathlib.Numerals.{unary_clauses}
use Rattle.std.specs.Fmt.{decimal}
use Rattle.hns_refusals.specs.Refusals.{spaced}

take_one : (xs : List ℕ) (i : ℕ) → i < length xs → take (i + 1) xs ≡ take i xs ++ (get_or xs i 0 ∷ [])
take_one xs i h = simp unary_clauses (take-suc xs i 0 h)

spaced_last : (xs : List ℕ) (n : ℕ) → spaced (xs ++ (n ∷ [])) ≡ spaced xs ++ (32 ∷ decimal n)
spaced_last [] n = ap (λ t. 32 ∷ t) (append-nil (decimal n))
spaced_last (x ∷ xs) n = ap (λ t. 32 ∷ (decimal x ++ t)) (spaced_last xs n) ∙ ap (λ t. 32 ∷ t) (sym (append_assoc (decimal x) (spaced xs) (32 ∷ decimal n)))

pub spaced_more : (xs : List ℕ) (i : ℕ) → i < length xs → spaced (take i xs) ++ (32 ∷ decimal (get_or xs i 0)) ≡ spaced (take (i + 1) xs)
spaced_more xs i h = sym (ap spaced (take_one xs i h) ∙ spaced_last (take i xs) (get_or xs i 0))
