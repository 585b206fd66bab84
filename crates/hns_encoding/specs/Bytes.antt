-- Document 01, its first lines and 'Port order': little-endian numbers, and what reading a field at a place answers.
use Rattle.std.specs.Prelude.{ℕ, zero, suc, ◌+◌, ◌-◌, ◌*◌, ◌<◌, ◌%◌, ◌/◌, List, [], ◌∷◌, Bool, true, false, length, take, drop, replicate, leb, eqb}
use Rattle.hns_refusals.specs.declared.Refusal.{Refusal}
use Rattle.hns_refusals.specs.Refusals.{unexpected_end, trailing_bytes}

-- the number that a list of bytes writes, lowest byte first
unfoldable pub le : List ℕ → ℕ
le [] = 0
le (b ∷ bs) = b + 256 * le bs

-- the n lowest bytes of a number, lowest byte first
unfoldable pub le_bytes : ℕ → ℕ → List ℕ
le_bytes zero v = []
le_bytes (suc n) v = v % 256 ∷ le_bytes n (v / 256)

-- every element is a byte
pub data Bytes : List ℕ → Type 0 where
  none : Bytes []
  byte : {b : ℕ} {bs : List ℕ} → b < 256 → Bytes bs → Bytes (b ∷ bs)

-- the first where the test holds, else the second
abbrev pub choose : {A : Type 0} → Bool → A → A → A
choose true a b = a
choose false a b = b

-- what reading a field answers: a value and the place after it, or the refusal
pub data Outcome (A : Type 0) : Type 0 where
  got : A → ℕ → Outcome A
  stop : Refusal → Outcome A

-- fields are read left to right, and the first refusal is the answer
abbrev pub after : {A B : Type 0} → Outcome A → (A → ℕ → Outcome B) → Outcome B
after (got a at) k = k a at
after (stop r) k = stop r

-- n bytes from a place on
abbrev pub part : List ℕ → ℕ → ℕ → List ℕ
part s at n = take n (drop at s)

-- how many bytes stand from a place on; none past the end
abbrev pub left : List ℕ → ℕ → ℕ
left s at = length s - at

-- a field of n bytes: a failed read names the offset where it began, and how many of its bytes are missing
unfoldable pub bytes_at : ℕ → List ℕ → ℕ → Outcome (List ℕ)
bytes_at n s at =
    choose (leb n (left s at)) (got (part s at n) (at + n)) (stop (unexpected_end at (n - left s at)))

-- a number of n bytes
unfoldable pub le_at : ℕ → List ℕ → ℕ → Outcome ℕ
le_at n s at = after (bytes_at n s at) (λ bs next. got (le bs) next)

-- the number of n bytes at a place, or 0 where they are not all there
unfoldable pub number_at : ℕ → List ℕ → ℕ → ℕ
number_at n s at = choose (leb n (left s at)) (le (part s at n)) 0

-- n bytes at a place, or zeros where they are not all there
unfoldable pub raw_at : ℕ → List ℕ → ℕ → List ℕ
raw_at n s at = choose (leb n (left s at)) (part s at n) (replicate n 0)

-- after the last field no byte is left
unfoldable pub end_at : List ℕ → ℕ → Outcome (Unit {0})
end_at s at = choose (eqb (left s at) 0) (got tt at) (stop (trailing_bytes (left s at)))

-- all of a list of bytes read as one item
unfoldable pub to_end : {A : Type 0} → (List ℕ → ℕ → Outcome A) → List ℕ → Outcome A
to_end item s = after (item s 0) (λ v at. after (end_at s at) (λ u last. got v last))
