-- Document 01, 'The packet': compact sizes, each in its shortest form, and the reads that a compact size bounds.
use Rattle.std.specs.Prelude.{ℕ, zero, suc, ◌*◌, List, [], ◌∷◌, ◌++◌, length, leb, ltb, eqb}
use Rattle.hns_refusals.specs.Refusals.{not_shortest, over_limit}
use Rattle.hns_encoding.specs.Bytes.{le_bytes, choose, Outcome, got, stop, after, le_at, bytes_at}

-- the bytes after the first of a wide form: n of them, of a number that no shorter form holds
unfoldable pub wide_at : ℕ → ℕ → List ℕ → ℕ → Outcome ℕ
wide_at n least s at =
    after (le_at n s at) (λ v next. choose (leb least v) (got v next) (stop (not_shortest (8 * n))))

-- what a first byte says of the rest
unfoldable pub compact_from : ℕ → List ℕ → ℕ → Outcome ℕ
compact_from first s next =
    choose (ltb first 253)
    (got first next)
    (choose (eqb first 253)
    (wide_at 2 253 s next)
    (choose (eqb first 254) (wide_at 4 65536 s next) (wide_at 8 4294967296 s next)))

-- a compact size: two reads, its first byte and the bytes after it
unfoldable pub compact_at : List ℕ → ℕ → Outcome ℕ
compact_at s at = after (le_at 1 s at) (λ first next. compact_from first s next)

-- the shortest form
unfoldable pub compact_bytes : ℕ → List ℕ
compact_bytes v =
    choose (ltb v 253)
    (v ∷ [])
    (choose (ltb v 65536) (253 ∷ le_bytes 2 v) (choose (ltb v 4294967296) (254 ∷ le_bytes 4 v) (255 ∷ le_bytes 8 v)))

-- a count of at most so many; the code of its field, 0 where the caller has none
unfoldable pub count_at : ℕ → ℕ → List ℕ → ℕ → Outcome ℕ
count_at limit field s at =
    after (compact_at s at) (λ n next. choose (leb n limit) (got n next) (stop (over_limit n limit field)))

-- n bytes, of at most so many
unfoldable pub bounded_at : ℕ → ℕ → List ℕ → ℕ → Outcome (List ℕ)
bounded_at n limit s at = choose (leb n limit) (bytes_at n s at) (stop (over_limit n limit 0))

-- a count and as many bytes
unfoldable pub varbytes_at : ℕ → List ℕ → ℕ → Outcome (List ℕ)
varbytes_at limit s at = after (count_at limit 0 s at) (λ n next. bounded_at n limit s next)

unfoldable pub varbytes : List ℕ → List ℕ
varbytes x = compact_bytes (length x) ++ x

-- compact sizes one after another and the place after them
pub record Run : Type 0 where
  pub values : List ℕ
  pub next : ℕ

-- a value and what follows it, or nothing more
abbrev pub further : Outcome ℕ → ℕ → (ℕ → Run) → Run
further (got v next) at rest = record { values = v ∷ (rest next).values; next = (rest next).next }
further (stop r) at rest = record { values = []; next = at }

-- at most n of them, up to the first that is refused
unfoldable pub sizes_at : ℕ → List ℕ → ℕ → Run
sizes_at zero s at = record { values = []; next = at }
sizes_at (suc n) s at = further (compact_at s at) at (λ next. sizes_at n s next)
