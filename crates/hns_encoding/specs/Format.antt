-- Document 01, 'The packet': a payload as its fields in order, the values that they read as, and reading and writing by them.
use Rattle.std.specs.Prelude.{ℕ, zero, suc, ◌+◌, ◌-◌, ◌≤◌, ◌<◌, ◌%◌, ◌^◌, List, [], ◌∷◌, ◌++◌, map, Bool, true, false, ◌≡◌, length, take, replicate, leb, eqb}
use Rattle.hns_refusals.specs.declared.Refusal.{Refusal}
use Rattle.hns_refusals.specs.Limits.{max_indexes, max_index, max_text}
use Rattle.hns_refusals.specs.Refusals.{unexpected_end, index_over, index_count_field, index_field}
use Rattle.hns_encoding.specs.Bytes.{le_bytes, choose, Outcome, got, stop, after, part, bytes_at, le_at, number_at, to_end}
use Rattle.hns_encoding.specs.Compact.{compact_bytes, count_at}

pub data Format : Type 0 where
  -- no field
  nothing : Format
  -- a little-endian number of so many bytes
  num : ℕ → Format
  -- so many bytes as they stand
  raw : ℕ → Format
  -- so many bytes that are not kept
  reserved : ℕ → Format
  -- host kind and host: ip is the first 16 bytes if the kind is 0, else zeros
  host : Format
  -- true only for 1
  flag : Format
  -- a length byte and as many bytes, each without its top bit; the text's field code
  text : ℕ → Format
  -- a count of at most so many, and as many items; the field code of the count
  counted : ℕ → ℕ → Format → Format
  -- BIP 152's index list: a count and differences
  indexes : Format
  -- one read of so many bytes, which are then a record of their own
  whole : ℕ → Format → Format
  -- one byte, and then what that byte says
  tagged : (ℕ → Format) → Format
  -- one format after another
  ◌▸◌ : Format → Format → Format

infixr 50 ◌▸◌
-- what a format reads as
abbrev pub Value : Format → Type 0
Value nothing = Unit {0}
Value (num n) = ℕ
Value (raw n) = List ℕ
Value (reserved n) = Unit {0}
Value host = List ℕ
Value flag = Bool
Value (text field) = List ℕ
Value (counted limit field f) = List (Value f)
Value indexes = List ℕ
Value (whole n f) = Value f
Value (tagged k) = (t : ℕ) × Value (k t)
Value (f ▸ g) = Value f × Value g

-- ---- reading

abbrev pub low7 : ℕ → ℕ
low7 b = b % 128

abbrev pub ip_of : ℕ → List ℕ → List ℕ
ip_of kind bs = choose (eqb kind 0) (take 16 bs) (replicate 16 0)

abbrev pub many : {A : Type 0} → ℕ → (List ℕ → ℕ → Outcome A) → List ℕ → ℕ → Outcome (List A)
many zero item s at = got [] at
many (suc n) item s at = after (item s at) (λ a next. after (many n item s next) (λ xs last. got (a ∷ xs) last))

-- BIP 152: an index is the least that it can be, one above the one before it, and its difference. So many indexes; `base` is the least that the first can be.
abbrev pub indexes_from : ℕ → ℕ → List ℕ → ℕ → Outcome (List ℕ)
indexes_from zero base s at = got [] at
indexes_from (suc n) base s at =
    after (count_at max_index index_field s at) (λ d next.
    choose (leb (base + d) max_index)
    (after (indexes_from n (base + d + 1) s next) (λ is last. got ((base + d) ∷ is) last))
    (stop index_over))

-- fields left to right
unfoldable pub read : (f : Format) → List ℕ → ℕ → Outcome (Value f)
read nothing s at = got tt at
read (num n) s at = le_at n s at
read (raw n) s at = bytes_at n s at
read (reserved n) s at = after (bytes_at n s at) (λ bs next. got tt next)
read host s at = after (le_at 1 s at) (λ kind next. after (bytes_at 36 s next) (λ bs last. got (ip_of kind bs) last))
read flag s at = after (le_at 1 s at) (λ b next. got (eqb b 1) next)
read (text field) s at = after (le_at 1 s at) (λ n next. after (bytes_at n s next) (λ bs last. got (map low7 bs) last))
read (counted limit field f) s at = after (count_at limit field s at) (λ n next. many n (read f) s next)
read indexes s at = after (count_at max_indexes index_count_field s at) (λ n next. indexes_from n 0 s next)
read (whole n f) s at = after (bytes_at n s at) (λ bs next. after (to_end (read f) bs) (λ v last. got v next))
read (tagged k) s at = after (le_at 1 s at) (λ t next. after (read (k t) s next) (λ v last. got (t, v) last))
read (f ▸ g) s at = after (read f s at) (λ a next. after (read g s next) (λ b last. got (a, b) last))

-- ---- writing

abbrev pub flag_byte : Bool → ℕ
flag_byte true = 1
flag_byte false = 0

-- the differences of indexes of which `base` is the least that the first can be
abbrev pub differences : ℕ → List ℕ → List ℕ
differences base [] = []
differences base (i ∷ is) = compact_bytes (i - base) ++ differences (i + 1) is

abbrev pub write_all : {A : Type 0} → (A → List ℕ) → List A → List ℕ
write_all item [] = []
write_all item (a ∷ xs) = item a ++ write_all item xs

unfoldable pub write : (f : Format) → Value f → List ℕ
write nothing v = []
write (num n) v = le_bytes n v
write (raw n) v = v
write (reserved n) v = replicate n 0
write host v = 0 ∷ (v ++ replicate 20 0)
write flag v = flag_byte v ∷ []
write (text field) v = length v ∷ v
write (counted limit field f) v = compact_bytes (length v) ++ write_all (write f) v
write indexes v = compact_bytes (length v) ++ differences 0 v
write (whole n f) v = write f v
write (tagged k) v = v.0 ∷ write (k v.0) v.1
write (f ▸ g) v = write f v.0 ++ write g v.1

abbrev pub All : {A : Type 0} → (A → Type 0) → List A → Type 0
All P [] = Unit {0}
All P (a ∷ xs) = P a × All P xs

-- indexes that rise from `base` up to the greatest
abbrev pub Rising : ℕ → List ℕ → Type 0
Rising base [] = Unit {0}
Rising base (i ∷ is) = (base ≤ i) × (i ≤ max_index) × Rising (i + 1) is

-- the values that a format can write
abbrev pub Fit : (f : Format) → Value f → Type 0
Fit nothing v = Unit {0}
Fit (num n) v = v < 256 ^ n
Fit (raw n) v = length v ≡ n
Fit (reserved n) v = Unit {0}
Fit host v = length v ≡ 16
Fit flag v = Unit {0}
Fit (text field) v = (length v ≤ max_text) × All (λ b. b < 128) v
Fit (counted limit field f) v = (length v ≤ limit) × (length v < 2 ^ 64) × All (Fit f) v
Fit indexes v = (length v ≤ max_indexes) × Rising 0 v
Fit (whole n f) v = (length (write f v) ≡ n) × Fit f v
Fit (tagged k) v = (v.0 < 256) × Fit (k v.0) v.1
Fit (f ▸ g) v = Fit f v.0 × Fit g v.1

-- ---- formats without counts, as blocks

abbrev pub sum : List ℕ → ℕ
sum [] = 0
sum (w ∷ ws) = w + sum ws

-- the widths of the reads of a format that has no counts, texts or tags, in order
abbrev pub widths : Format → List ℕ
widths nothing = []
widths (num n) = n ∷ []
widths (raw n) = n ∷ []
widths (reserved n) = n ∷ []
widths host = 1 ∷ 36 ∷ []
widths flag = 1 ∷ []
widths (text field) = []
widths (counted limit field f) = []
widths indexes = []
widths (whole n f) = n ∷ []
widths (tagged k) = []
widths (f ▸ g) = widths f ++ widths g

abbrev pub size : Format → ℕ
size f = sum (widths f)

-- a format has none of these: its reads have the same widths everywhere
abbrev pub Fixed : Format → Type 0
Fixed nothing = Unit {0}
Fixed (num n) = Unit {0}
Fixed (raw n) = Unit {0}
Fixed (reserved n) = Unit {0}
Fixed host = Unit {0}
Fixed flag = Unit {0}
Fixed (text field) = ⊥
Fixed (counted limit field f) = ⊥
Fixed indexes = ⊥
Fixed (whole n f) = (size f ≡ n) × Fixed f
Fixed (tagged k) = ⊥
Fixed (f ▸ g) = Fixed f × Fixed g

-- a format has no counts
abbrev pub Flat : Format → Type 0
Flat nothing = Unit {0}
Flat (num n) = Unit {0}
Flat (raw n) = Unit {0}
Flat (reserved n) = Unit {0}
Flat host = Unit {0}
Flat flag = Unit {0}
Flat (text field) = Unit {0}
Flat (counted limit field f) = ⊥
Flat indexes = ⊥
Flat (whole n f) = (size f ≡ n) × Fixed f
Flat (tagged k) = (t : ℕ) → Flat (k t)
Flat (f ▸ g) = Flat f × Flat g

abbrev pub fixed_flat : (f : Format) → Fixed f → Flat f
fixed_flat nothing x = tt
fixed_flat (num n) x = tt
fixed_flat (raw n) x = tt
fixed_flat (reserved n) x = tt
fixed_flat host x = tt
fixed_flat flag x = tt
fixed_flat (text field) x = tt
fixed_flat (counted limit field f) x = x
fixed_flat indexes x = x
fixed_flat (whole n f) x = x
fixed_flat (tagged k) x = absurd x
fixed_flat (f ▸ g) x = (fixed_flat f x.0, fixed_flat g x.1)

-- the widths of its reads at a place, which a text's length byte and a tag say
abbrev pub widths_at : Format → List ℕ → ℕ → List ℕ
widths_at nothing s at = []
widths_at (num n) s at = n ∷ []
widths_at (raw n) s at = n ∷ []
widths_at (reserved n) s at = n ∷ []
widths_at host s at = 1 ∷ 36 ∷ []
widths_at flag s at = 1 ∷ []
widths_at (text field) s at = 1 ∷ number_at 1 s at ∷ []
widths_at (counted limit field f) s at = []
widths_at indexes s at = []
widths_at (whole n f) s at = n ∷ []
widths_at (tagged k) s at = 1 ∷ widths_at (k (number_at 1 s at)) s (at + 1)
widths_at (f ▸ g) s at = widths_at f s at ++ widths_at g s (at + sum (widths_at f s at))

-- where reads of these widths end first, of so many bytes that are left
abbrev pub short : List ℕ → ℕ → ℕ → Refusal
short [] at there = unexpected_end at 0
short (w ∷ ws) at there = choose (leb w there) (short ws (at + w) (there - w)) (unexpected_end at (w - there))

-- what stands at a place, where it fits
abbrev pub value_at : (f : Format) → Flat f → List ℕ → ℕ → Value f
value_at nothing x s at = tt
value_at (num n) x s at = number_at n s at
value_at (raw n) x s at = part s at n
value_at (reserved n) x s at = tt
value_at host x s at = ip_of (number_at 1 s at) (part s (at + 1) 36)
value_at flag x s at = eqb (number_at 1 s at) 1
value_at (text field) x s at = map low7 (part s (at + 1) (number_at 1 s at))
value_at (counted limit field f) x s at = absurd x
value_at indexes x s at = absurd x
value_at (whole n f) x s at = value_at f (fixed_flat f x.1) (part s at n) 0
value_at (tagged k) x s at = (number_at 1 s at, value_at (k (number_at 1 s at)) (x (number_at 1 s at)) s (at + 1))
value_at (f ▸ g) x s at = (value_at f x.0 s at, value_at g x.1 s (at + sum (widths_at f s at)))

-- n values of a fixed size from a place on, one after another
unfoldable pub values_at : (f : Format) → Fixed f → ℕ → List ℕ → ℕ → List (Value f)
values_at f x zero s at = []
values_at f x (suc n) s at = value_at f (fixed_flat f x) s at ∷ values_at f x n s (at + size f)
