-- The parts of a line. Assumes nothing.
use Prim.Native.Nat.{ℕ, ◌/◌, ◌%◌, ◌≤◌, ◌<◌}
use mathlib.Core.Path.{◌≡◌, refl}
use mathlib.Core.List.{List, [], ◌∷◌, reverse}
use native.Mathlib.Omega.{arith}
use lib.ListN.{length}
use borrow.Author.Tests.{le-leb, lt-leb}
use Rattle.std.specs.Int.{bytes_high_first}
use Rattle.hns_encoding.specs.Bytes.{le_bytes}
use Rattle.survey_digits.specs.Digits.{hex}
use Rattle.survey_export.specs.Text.{space, hex_payload}
use Rattle.survey_export.specs.Survey.{kept_text, go_on, goes_on_at}

pub payload_none : (s : List ℕ) → length s ≡ 0 → hex_payload s ≡ []
unfolding hex_payload
payload_none [] e = refl
payload_none (b ∷ s) e = absurd (omega arith)

pub payload_some : (s : List ℕ) → (length s ≡ 0 → ⊥) → hex_payload s ≡ space ∷ hex s
unfolding hex_payload
payload_some [] ne = absurd (ne refl)
payload_some (b ∷ s) ne = refl

-- four bytes, highest first
pub highest_first : (n : ℕ) → bytes_high_first 4 (n % 4294967296) ≡ reverse (le_bytes 4 n)
unfolding le_bytes
highest_first n =
    let one : n % 4294967296 / 16777216 % 256 ≡ n / 256 / 256 / 256 % 256 = omega arith in
    let two : n % 4294967296 / 65536 % 256 ≡ n / 256 / 256 % 256 = omega arith in
    let three : n % 4294967296 / 256 % 256 ≡ n / 256 % 256 = omega arith in
    let four : n % 4294967296 % 256 ≡ n % 256 = omega arith in
    rw (one, two, three, four)

-- after a full chunk's lines
pub text_kept : (h at : ℕ) → at ≤ kept_text → go_on h at 0 ≡ goes_on_at h at
unfolding goes_on_at
text_kept h at l = simp (le-leb at kept_text l)

pub text_begun : (h at : ℕ) → kept_text < at → go_on h 0 at ≡ goes_on_at h at
unfolding goes_on_at
text_begun h at l = simp (lt-leb at kept_text l)
