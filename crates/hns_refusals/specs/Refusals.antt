-- The refusals of documents 01 and 02, one definition for each row of the table: the number, then values a, b, c. 0 stands where the documents name no value.
use Rattle.std.specs.Prelude.{ℕ, List, [], ◌∷◌, ◌++◌, Result}
use Rattle.std.specs.Fmt.{decimal}
use Rattle.hns_refusals.specs.declared.Refusal.{Refusal}
use Rattle.hns_refusals.specs.declared.Refusal.TheVariants as R
use Rattle.hns_refusals.specs.Limits.{max_payload, max_stream, max_indexes}

-- what a call answers: what it is asked for, or a refusal
abbrev pub Answer : Type 0 → Type 0
Answer A = Result A Refusal

-- a field that is not all there: where it begins, and how many bytes it lacks
abbrev pub unexpected_end : ℕ → ℕ → Refusal
unexpected_end offset missing = R.UnexpectedEnd offset missing

-- a compact size that a shorter form holds, by the bits of the form it has
abbrev pub not_shortest : ℕ → Refusal
not_shortest bits = R.NotShortest bits

-- bytes after the last field
abbrev pub trailing_bytes : ℕ → Refusal
trailing_bytes remaining = R.TrailingBytes remaining

-- a frame of another network; magics as words
abbrev pub magic_mismatch : ℕ → ℕ → Refusal
magic_mismatch expected found = R.MagicMismatch expected found

-- a longer payload than frames have
abbrev pub payload_too_large : ℕ → Refusal
payload_too_large actual = R.PayloadTooLarge actual

-- more bytes at once than a stream takes
abbrev pub stream_too_large : ℕ → Refusal
stream_too_large total = R.StreamTooLarge total

-- too many items, too great an index or too long a text, with the code of its field
abbrev pub over_limit : ℕ → ℕ → ℕ → Refusal
over_limit actual limit field = R.OverLimit actual limit field

-- a part of a frame where a whole one is asked for
abbrev pub incomplete_frame : ℕ → Refusal
incomplete_frame missing = R.IncompleteFrame missing

-- differences that lead past the greatest index
abbrev pub index_over : Refusal
index_over = R.IndexOver

-- a text to write that is not ASCII, with the code of its field
abbrev pub not_ascii : ℕ → Refusal
not_ascii field = R.NotAscii field

-- a reject to write without the hash that its type asks for, or with one that it does not
abbrev pub hash_presence : Refusal
hash_presence = R.HashPresence

-- too many indexes to write
abbrev pub too_many_indexes : ℕ → Refusal
too_many_indexes actual = R.TooManyIndexes actual

-- past the greatest index, at this place of a list to write
abbrev pub index_too_large : ℕ → Refusal
index_too_large place = R.IndexTooLarge place

-- no rise at this place of a list to write
abbrev pub not_rising : ℕ → Refusal
not_rising place = R.NotRising place

-- too many or too few bytes for a header
abbrev pub header_length : ℕ → Refusal
header_length actual = R.HeaderLength actual

-- no room in the output
abbrev pub output_short : ℕ → Refusal
output_short needed = R.OutputShort needed

-- no room in the store for what is held and pushed
abbrev pub store_short : ℕ → Refusal
store_short needed = R.StoreShort needed

-- more held than the store has
abbrev pub held_over : ℕ → Refusal
held_over held = R.HeldOver held

-- a place that no item has
abbrev pub no_item : Refusal
no_item = R.NoItem

-- no room in a tally's totals for what is held and pushed
abbrev pub tally_full : Refusal
tally_full = R.TallyFull

-- a role above 7
abbrev pub no_role : Refusal
no_role = R.NoRole

-- a type that the role may not send
abbrev pub not_granted : Refusal
not_granted = R.NotGranted

-- ---- the table

-- its number
abbrev pub number : Refusal → ℕ
number (R.UnexpectedEnd offset missing) = 1
number (R.NotShortest bits) = 2
number (R.TrailingBytes remaining) = 3
number (R.MagicMismatch expected found) = 4
number (R.PayloadTooLarge actual) = 5
number (R.StreamTooLarge total) = 6
number (R.OverLimit actual limit field) = 7
number (R.IncompleteFrame missing) = 8
number R.IndexOver = 9
number (R.NotAscii field) = 10
number R.HashPresence = 11
number (R.TooManyIndexes actual) = 12
number (R.IndexTooLarge place) = 13
number (R.NotRising place) = 14
number (R.HeaderLength actual) = 15
number (R.OutputShort needed) = 16
number (R.StoreShort needed) = 17
number (R.HeldOver held) = 18
number R.NoItem = 19
number R.TallyFull = 20
number R.NoRole = 21
number R.NotGranted = 22

-- its values a, b, c
abbrev pub values : Refusal → List ℕ
values (R.UnexpectedEnd offset missing) = offset ∷ missing ∷ 0 ∷ []
values (R.NotShortest bits) = bits ∷ 0 ∷ 0 ∷ []
values (R.TrailingBytes remaining) = remaining ∷ 0 ∷ 0 ∷ []
values (R.MagicMismatch expected found) = expected ∷ found ∷ 0 ∷ []
values (R.PayloadTooLarge actual) = actual ∷ max_payload ∷ 0 ∷ []
values (R.StreamTooLarge total) = total ∷ max_stream ∷ 0 ∷ []
values (R.OverLimit actual limit field) = actual ∷ limit ∷ field ∷ []
values (R.IncompleteFrame missing) = missing ∷ 0 ∷ 0 ∷ []
values R.IndexOver = 0 ∷ 0 ∷ 0 ∷ []
values (R.NotAscii field) = 0 ∷ 0 ∷ field ∷ []
values R.HashPresence = 0 ∷ 0 ∷ 0 ∷ []
values (R.TooManyIndexes actual) = actual ∷ max_indexes ∷ 0 ∷ []
values (R.IndexTooLarge place) = place ∷ 0 ∷ 0 ∷ []
values (R.NotRising place) = place ∷ 0 ∷ 0 ∷ []
values (R.HeaderLength actual) = actual ∷ 0 ∷ 0 ∷ []
values (R.OutputShort needed) = needed ∷ 0 ∷ 0 ∷ []
values (R.StoreShort needed) = needed ∷ 0 ∷ 0 ∷ []
values (R.HeldOver held) = held ∷ 0 ∷ 0 ∷ []
values R.NoItem = 0 ∷ 0 ∷ 0 ∷ []
values R.TallyFull = 0 ∷ 0 ∷ 0 ∷ []
values R.NoRole = 0 ∷ 0 ∷ 0 ∷ []
values R.NotGranted = 0 ∷ 0 ∷ 0 ∷ []

-- numbers in decimal, a space before each
abbrev pub spaced : List ℕ → List ℕ
spaced [] = []
spaced (v ∷ vs) = 32 ∷ (decimal v ++ spaced vs)

-- how it is printed: its number, then its values
abbrev pub printed : Refusal → List ℕ
printed r = decimal (number r) ++ spaced (values r)

-- codes of fields, for value c
abbrev pub address_field : ℕ
address_field = 1

abbrev pub inventory_field : ℕ
inventory_field = 2

abbrev pub locator_field : ℕ
locator_field = 3

abbrev pub header_field : ℕ
header_field = 4

abbrev pub index_count_field : ℕ
index_count_field = 5

abbrev pub index_field : ℕ
index_field = 6

abbrev pub agent_field : ℕ
agent_field = 7

abbrev pub reason_field : ℕ
reason_field = 8
