-- The cases that an input has: a line is a case in hexadecimal.
use Rattle.std.specs.Prelude.{◌≡◌, ℕ, ◌+◌, ◌*◌, ◌/◌, ◌%◌, leb, eqb, List, [], ◌∷◌, ◌++◌, length, take, Option, None, Some, Result, Ok, ⊤}
use Rattle.std.specs.Char.{digit_value}
use Rattle.std.specs.Io.KnownBytes.{Consumes}
use Rattle.hns_encoding.specs.Bytes.{choose}
use Rattle.case_input.specs.declared.Line.{Line}

-- a line so far: the bytes that it has given, and the value of a digit behind them
pub record Begun : Type 0 where
  pub bytes : List ℕ
  pub half : Option ℕ

abbrev pub begun : Line → List ℕ → Begun
begun line case = record { bytes = take line.size case; half = line.half }

-- nothing of a line
abbrev pub unbegun : Begun
unbegun = record { bytes = []; half = None }

-- a digit's value behind what there is: two make a byte
abbrev pub with_value : List ℕ → Option ℕ → ℕ → Begun
with_value bytes None v = record { bytes = bytes; half = Some v }
with_value bytes (Some high) v = record { bytes = bytes ++ ((high % 16 * 16 + v) ∷ []); half = None }

-- a byte of a line: what is no digit, and what there is no room for, is passed over
unfoldable pub with_digit : ℕ → Begun → ℕ → Begun
with_digit room s d = choose (leb room (length s.bytes)) s (choose (leb 16 (digit_value d)) s (with_value s.bytes s.half (digit_value d)))

-- or any byte is a digit: for a figure its own value, for a letter from a to f or A to F nine more than its place among the letters
abbrev pub value_of : ℕ → ℕ
value_of d = (d % 16 + d / 58 * 9) % 16

-- then only what there is no room for is passed over
unfoldable pub with_any : ℕ → Begun → ℕ → Begun
with_any room s d = choose (leb room (length s.bytes)) s (with_value s.bytes s.half (value_of d))

module _ (taken : ℕ → Begun → ℕ → Begun) where
  -- how a byte is taken, by its value as a digit, if it has one
  abbrev pub TakenAs : ℕ → Option ℕ → Type 0
  TakenAs d None = (room : ℕ) (s : Begun) → taken room s d ≡ s
  TakenAs d (Some v) = (room : ℕ) (s : Begun) → taken room s d ≡ choose (leb room (length s.bytes)) s (with_value s.bytes s.half v)

  -- the cases of the lines that end in an input, whose first line is begun
  unfoldable pub cases_by : ℕ → Begun → List ℕ → List (List ℕ)
  cases_by room s [] = []
  cases_by room s (b ∷ input) = choose (eqb b 10) (s.bytes ∷ cases_by room unbegun input) (cases_by room (taken room s b) input)

-- where what is no digit is passed over
abbrev pub cases_in : ℕ → Begun → List ℕ → List (List ℕ)
cases_in = cases_by with_digit

-- the closure was called at each case, one after the other, and answered no error
module _ {F E : Type 0} (called : F → List ℕ → Result (Unit {0}) E → F → Type 0) where
  unfoldable pub Answers : F → List (List ℕ) → Type 0
  Answers f [] = ⊤
  Answers f (case ∷ cases) = (g : F) × called f case (Ok tt) g × Answers g cases

  -- what was done from one closure and line to another is an input's part of the calls, whatever comes after it
  abbrev pub AnswersPart : (ℕ → Begun → ℕ → Begun) → ℕ → F → Begun → List ℕ → F → Begun → Type 0
  AnswersPart taken room f s input g t = (more : List ℕ) → Answers g (cases_by taken room t more) → Answers f (cases_by taken room s (input ++ more))

  -- what an input has lost, where it is known, was read, and its cases were answered
  abbrev pub AnswersBy : (ℕ → Begun → ℕ → Begun) → ℕ → F → Option (List ℕ) → Option (List ℕ) → Type 0
  AnswersBy taken room f old new = (read : List ℕ) × Consumes old new read × Answers f (cases_by taken room unbegun read)

  -- where what is no digit is passed over
  abbrev pub AnswersRead : ℕ → F → Option (List ℕ) → Option (List ℕ) → Type 0
  AnswersRead = AnswersBy with_digit

  -- where any byte is a digit
  abbrev pub AnswersReadAny : ℕ → F → Option (List ℕ) → Option (List ℕ) → Type 0
  AnswersReadAny = AnswersBy with_any
