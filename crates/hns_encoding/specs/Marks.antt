-- Document 01, 'Not kept': what becomes of each byte of a payload that is read and written again.
use Rattle.std.specs.Prelude.{ℕ, zero, suc, ◌+◌, ◌-◌, List, [], ◌∷◌, ◌++◌, length, get_or, replicate, eqb}
use Rattle.hns_encoding.specs.Bytes.{choose, Outcome, got, stop, part}
use Rattle.hns_encoding.specs.Compact.{compact_at}
use Rattle.hns_encoding.specs.Format.{Format, nothing, num, raw, reserved, host, flag, text, counted, indexes, whole, tagged, ◌▸◌, read, low7, flag_byte}

-- kept, set to zero, without its top bit, or 1 only where it was 1
pub data Mark : Type 0 where
  keep clear low one : Mark

abbrev pub marked : Mark → ℕ → ℕ
marked keep b = b
marked clear b = 0
marked low b = low7 b
marked one b = flag_byte (eqb b 1)

abbrev pub mark_all : List Mark → List ℕ → List ℕ
mark_all [] s = []
mark_all (m ∷ ms) [] = []
mark_all (m ∷ ms) (b ∷ s) = marked m b ∷ mark_all ms s

-- how many bytes a reading took
abbrev pub extent : {A : Type 0} → Outcome A → ℕ → ℕ
extent (got v next) at = next - at
extent (stop r) at = 0

abbrev pub count_of : Outcome ℕ → ℕ
count_of (got n next) = n
count_of (stop r) = 0

abbrev pub marks_many : ℕ → (List ℕ → ℕ → List Mark) → List ℕ → ℕ → List Mark
marks_many zero item s at = []
marks_many (suc n) item s at = item s at ++ marks_many n item s (at + length (item s at))

abbrev pub host_mark : ℕ → Mark
host_mark kind = choose (eqb kind 0) keep clear

-- the marks of the bytes that a format reads at a place
unfoldable pub marks : Format → List ℕ → ℕ → List Mark
marks nothing s at = []
marks (num n) s at = replicate n keep
marks (raw n) s at = replicate n keep
marks (reserved n) s at = replicate n clear
marks host s at = clear ∷ (replicate 16 (host_mark (get_or s at 0)) ++ replicate 20 clear)
marks flag s at = one ∷ []
marks (text field) s at = keep ∷ replicate (get_or s at 0) low
marks (counted limit field f) s at =
    replicate (extent (compact_at s at) at) keep ++ marks_many (count_of (compact_at s at)) (marks f) s (at + extent (compact_at s at) at)
marks indexes s at = replicate (extent (read indexes s at) at) keep
marks (whole n f) s at = marks f (part s at n) 0
marks (tagged k) s at = keep ∷ marks (k (get_or s at 0)) s (at + 1)
marks (f ▸ g) s at = marks f s at ++ marks g s (at + length (marks f s at))
