-- A case of the Rust's answers.
use Rattle.std.specs.Prelude.{ℕ, List, drop}
use Rattle.hns_encoding.specs.Bytes.{number_at}
use Rattle.case_input.specs.declared.Asked.{Asked}
use Rattle.case_input.specs.Zeros.{long_case}

-- what stands before its bytes
abbrev pub asked_of : List ℕ → Asked
asked_of case = record { kind = number_at 1 case 0; about = number_at 1 case 1; a = number_at 8 case 2; b = number_at 8 case 10; c = number_at 8 case 18 }

-- its bytes, with the zeros that the line leaves out, in so much room
abbrev pub long_question : List ℕ → ℕ → List ℕ
long_question case room = long_case (drop 26 case) (number_at 8 case 10) (number_at 8 case 18) room
