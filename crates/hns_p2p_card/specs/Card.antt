-- Document 01, 'Length card': the table, and what its two numbers are of the payloads of a type.
use Rattle.std.specs.Prelude.{ℕ, ◌≤◌, ◌≡◌, List, [], ◌∷◌, length, get_or}
use Rattle.hns_encoding.specs.Bytes.{Bytes, Outcome, got}
use Rattle.hns_p2p_types.specs.Protocol.{Layout, read_by}
use Rattle.hns_p2p_types.specs.Packets.{layout}
use Rattle.hns_p2p_card.specs.declared.Row.{Row}

-- ---- the table

abbrev pub row : ℕ → ℕ → Row
row low high = record { least = low; greatest = high }

abbrev pub exactly : ℕ → Row
exactly n = row n n

-- raw, and carried as bytes
abbrev pub any_bytes : Row
any_bytes = row 0 8000000

-- types 0 to 29 in order
unfoldable pub rows : List Row
rows =
    row 122 377
    ∷ exactly 0
    ∷ exactly 8
    ∷ exactly 8
    ∷ exactly 0
    ∷ row 1 88003
    ∷ row 1 1800003
    ∷ row 1 1800003
    ∷ row 1 1800003
    ∷ row 33 1600035
    ∷ row 33 1600035
    ∷ row 1 472003
    ∷ exactly 0
    ∷ any_bytes
    ∷ any_bytes
    ∷ row 3 290
    ∷ exactly 0
    ∷ any_bytes
    ∷ any_bytes
    ∷ exactly 0
    ∷ any_bytes
    ∷ exactly 8
    ∷ exactly 9
    ∷ any_bytes
    ∷ row 33 17083
    ∷ any_bytes
    ∷ exactly 64
    ∷ any_bytes
    ∷ any_bytes
    ∷ any_bytes
    ∷ []

-- 30 to 255: raw
unfoldable pub card_row : ℕ → Row
card_row t = get_or rows t any_bytes

-- ---- what the numbers are

-- a reading that is no refusal
abbrev pub Reads : {A : Type 0} → Outcome A → Type 0
Reads {A} o = (v : A) × (last : ℕ) × (o ≡ got v last)

-- so many bytes occur among what is accepted
abbrev pub Occurs : (List ℕ → Type 0) → ℕ → Type 0
Occurs Accepted n = (s : List ℕ) × Bytes s × Accepted s × (length s ≡ n)

-- what is accepted has at least `low` and at most `high` bytes, and both lengths occur
pub record Lengths (Accepted : List ℕ → Type 0) (low high : ℕ) : Type 0 where
  pub between : (s : List ℕ) → Bytes s → Accepted s → (low ≤ length s) × (length s ≤ high)
  pub shortest : Occurs Accepted low
  pub longest : Occurs Accepted high

-- a row's numbers are those of the payloads that read by a layout
abbrev pub Right : Layout → Row → Type 0
Right l r = Lengths (λ s. Reads (read_by l s)) r.least r.greatest

-- `card`, proofs/Card.antt: every row is right
abbrev pub Card : Type 0
Card = (t : ℕ) → Right (layout t) (card_row t)

-- `unique`, proofs/Card.antt: there is one least and one greatest length
abbrev pub Unique : Type 1
Unique = (Accepted : List ℕ → Type 0) (l h l' h' : ℕ) → Lengths Accepted l h → Lengths Accepted l' h' → (l ≡ l') × (h ≡ h')

-- `only`, proofs/Card.antt: a row with any other number is not right
abbrev pub Only : Type 0
Only = (t : ℕ) (r : Row) → Right (layout t) r → r ≡ card_row t
