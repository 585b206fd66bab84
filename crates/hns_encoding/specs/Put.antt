-- Document 01, 'What changes shape', the cursor: what a put stores from a place on, and where the next one begins.
use Rattle.std.specs.Prelude.{ℕ, ◌+◌, ◌-◌, ◌^◌, min, ◌≡◌, List, ◌++◌, length, take, drop}

-- o with the bytes x from a place on; those past the end of o are dropped
unfoldable pub splice : List ℕ → ℕ → List ℕ → List ℕ
splice o at x = take at o ++ (take (length o - at) x ++ drop (at + length x) o)

-- n places on, or 2^64 - 1 where that is more
unfoldable pub advance : ℕ → ℕ → ℕ
advance at n = min (at + n) (2 ^ 64 - 1)

-- to put x at a place of o leaves o' and the next place at'
pub record Put (o : List ℕ) (at : ℕ) (x : List ℕ) (o' : List ℕ) (at' : ℕ) : Type 0 where
  pub next : at' ≡ advance at (length x)
  pub bytes : o' ≡ splice o at x
