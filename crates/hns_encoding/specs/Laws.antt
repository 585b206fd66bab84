-- What is proved of every format: what it wrote reads back, what it reads it writes again, and one without counts reads as one block.
use Rattle.std.specs.Prelude.{ℕ, ◌+◌, ◌≤◌, ◌<◌, ◌≡◌, List, ◌++◌, length, drop}
use Rattle.hns_encoding.specs.Bytes.{Bytes, Outcome, got, stop, left, to_end}
use Rattle.hns_encoding.specs.Format.{Format, Value, read, write, Fit, Fixed, Flat, sum, size, widths_at, short, value_at}
use Rattle.hns_encoding.specs.Marks.{Mark, mark_all, marks}

-- ---- what was written reads back

-- wherever the bytes z stand, `item` reads them as a
abbrev pub Reads : {A : Type 0} → (List ℕ → ℕ → Outcome A) → List ℕ → A → Type 0
Reads item z a = (x y : List ℕ) → item (x ++ (z ++ y)) (length x) ≡ got a (length x + length z)

-- `item` reads what `put` wrote, of each value of which `Ok` holds
abbrev pub Backs : {A : Type 0} → (List ℕ → ℕ → Outcome A) → (A → List ℕ) → (A → Type 0) → Type 0
Backs {A} item put Ok = (a : A) → Ok a → Reads item (put a) a

-- `back`, proofs/Back.antt
abbrev pub ReadsBack : Type 0
ReadsBack = (f : Format) → Backs (read f) (write f) (Fit f)

-- ---- what is read is written again

-- what a reading that reads at a place says of the value, of where it ends, and of the bytes that `put` writes
pub record Wrote {A : Type 0} (put : A → List ℕ) (Ok : A → Type 0) (ms : List Mark) (s : List ℕ) (p : ℕ) (v : A) (next : ℕ) : Type 0 where
  pub fit : Ok v
  pub same : put v ≡ mark_all ms (drop p s)
  pub size : next ≡ p + length ms
  pub inside : next ≤ length s

-- what `item` reads at a place that is not past the end, `put` writes again, as the marks say
abbrev pub Forward : {A : Type 0} → (List ℕ → ℕ → Outcome A) → (A → List ℕ) → (A → Type 0) → (List ℕ → ℕ → List Mark) → Type 0
Forward {A} item put Ok ms = (s : List ℕ) → Bytes s → (p : ℕ) → p ≤ length s → (v : A) (next : ℕ) → item s p ≡ got v next → Wrote put Ok (ms s p) s p v next

-- `forward`, proofs/Forward.antt
abbrev pub WritesAgain : Type 0
WritesAgain = (f : Format) → Forward (read f) (write f) (Fit f) (marks f)

-- Demand 3, of any format: what reads to its end is written again with the bytes it had, but for what is not kept, which is zero; it is as long, and reads as the same value
pub record Rewritten (f : Format) (s : List ℕ) (v : Value f) : Type 0 where
  pub zeroed : write f v ≡ mark_all (marks f s 0) s
  pub as_long : length (write f v) ≡ length s
  pub again : to_end (read f) (write f v) ≡ got v (length s)

-- `rewritten`, proofs/Rewritten.antt
abbrev pub Rewrites : Type 0
Rewrites = (f : Format) (s : List ℕ) → Bytes s → (v : Value f) (last : ℕ) → to_end (read f) s ≡ got v last → Rewritten f s v

-- ---- a format without counts

-- how a block of reads of these widths reads: its value where it fits, else the refusal of the first read that does not fit
abbrev pub Block : {A : Type 0} → Outcome A → List ℕ → A → List ℕ → ℕ → Type 0
Block o ws v s p = (sum ws ≤ left s p → o ≡ got v (p + sum ws)) × (left s p < sum ws → o ≡ stop (short ws p (left s p)))

-- `block`, proofs/Blocks.antt
abbrev pub ReadsAsBlock : Type 0
ReadsAsBlock = (f : Format) (x : Flat f) (s : List ℕ) (p : ℕ) → Block (read f s p) (widths_at f s p) (value_at f x s p) s p

-- `fixed_length`, proofs/Blocks.antt: a record of fixed size writes as many bytes as it reads
abbrev pub WritesAsMany : Type 0
WritesAsMany = (f : Format) → Fixed f → (v : Value f) → Fit f v → length (write f v) ≡ size f
