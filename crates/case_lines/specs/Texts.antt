-- What is printed of an answer's parts.
use Rattle.std.specs.Prelude.{ℕ, ◌-◌, ◌^◌, false, List, [], ◌∷◌, ◌++◌, codes, take, flat_map, Option, Some, Result, Ok, Err}
use Rattle.std.specs.Fmt.{digits, padded_integral, format_spec}
use Rattle.hns_refusals.specs.declared.Refusal.{Refusal}
use Rattle.hns_refusals.specs.Refusals.{printed}

-- a byte as two digits, of which the first may be 0: std's words for what `{:02x}` writes
abbrev pub byte_text : ℕ → List ℕ
byte_text b = padded_integral (format_spec 32 0 4 2 (2 ^ 64 - 1)) false [] (digits 16 false b)

-- bytes in hexadecimal
abbrev pub hex_text : List ℕ → List ℕ
hex_text bytes = flat_map byte_text bytes

-- the first bytes, or that there are none
unfoldable pub shown_text : List ℕ → List ℕ
shown_text [] = codes "-"
shown_text (b ∷ bytes) = hex_text (take 800 (b ∷ bytes))

-- bytes behind a space, or nothing if there are none
unfoldable pub behind_text : List ℕ → List ℕ
behind_text [] = []
behind_text (b ∷ bytes) = 32 ∷ hex_text (b ∷ bytes)

-- what was answered, where it is known how it prints, or the refusal
unfoldable pub answered_text : {T : Type 0} → (T → Option (List ℕ)) → Result T Refusal → Option (List ℕ)
answered_text text (Ok value) = text value
answered_text text (Err refusal) = Some (codes "refused " ++ printed refusal)
