-- Answers as rows of six numbers for a caller in C or Rust: 0 and what was answered, or the number of a refusal and its values a, b, c. What a case does not name is 0.
use Rattle.std.specs.Prelude.{ℕ, ◌≡◌, List, [], ◌∷◌, ◌++◌, get_or, eqb, Option, Some, None, Ok, Err}
use Rattle.hns_encoding.specs.declared.Slice.{Slice}
use Rattle.hns_refusals.specs.declared.Refusal.{Refusal}
use Rattle.hns_refusals.specs.Refusals.{Answer, number, values}
use Rattle.hns_encoding.specs.declared.Sizes.{Sizes}
use Rattle.hns_encoding.specs.Bytes.{choose}
use Rattle.hns_encoding.specs.Put.{splice}
use Rattle.hns_header_consensus.specs.declared.Header.{Header}
use Rattle.hns_p2p_frame.specs.declared.NetworkMagic.{NetworkMagic}
use Rattle.hns_p2p_frame.specs.declared.NetworkMagic.TheVariants.{Mainnet, Testnet, Regtest, Simnet}
use Rattle.hns_p2p_frame.specs.declared.Prefix.{Prefix}
use Rattle.hns_p2p_frame.specs.declared.Frames.{Frames}
use Rattle.hns_p2p_frame.specs.declared.Pushed.{Pushed}
use Rattle.hns_p2p_frame.specs.declared.Delivered.{Delivered}

-- a row at the front of the caller's numbers; what does not fit is dropped
unfoldable pub answered : List ℕ → List ℕ → List ℕ
answered o row = splice o 0 row

-- the number of a network; every number from 3 on is simnet
abbrev pub network_of : ℕ → NetworkMagic
network_of n = choose (eqb n 0) Mainnet (choose (eqb n 1) Testnet (choose (eqb n 2) Regtest Simnet))

-- a refusal, and the held count where it is a push that was refused
abbrev pub refused_row : Refusal → ℕ → List ℕ
refused_row r held = number r ∷ (values r ++ (held ∷ 0 ∷ []))

abbrev pub row : ℕ → ℕ → ℕ → ℕ → ℕ → List ℕ
row a b c d e = 0 ∷ a ∷ b ∷ c ∷ d ∷ e ∷ []

-- the value and the place after it
abbrev pub number_row : Answer (ℕ × ℕ) → List ℕ
number_row (Ok x) = row x.0 x.1 0 0 0
number_row (Err r) = refused_row r 0

-- the row of a value of any type of which `gives` says what number it is
abbrev pub NumberRow : {A : Type 0} → (A → ℕ → Type 0) → Answer (A × ℕ) → List ℕ → Type 0
NumberRow gives (Ok x) ns = (v : ℕ) × (gives x.0 v × (ns ≡ row v x.1 0 0 0))
NumberRow gives (Err r) ns = ns ≡ refused_row r 0

-- how many were read and the place after them
abbrev pub sizes_row : Sizes → List ℕ
sizes_row sizes = row sizes.count sizes.next 0 0 0

-- where the bytes begin and the place after them
abbrev pub slice_row : Answer Slice → List ℕ
slice_row (Ok x) = row x.start x.end 0 0 0
slice_row (Err r) = refused_row r 0

-- that a test is passed, as that no byte is left, or that a frame may be sent
abbrev pub checked_row : Answer (Unit {0}) → List ℕ
checked_row (Ok u) = row 0 0 0 0 0
checked_row (Err r) = refused_row r 0

-- one number: the length of an encoding, or how many types may be sent
abbrev pub count_row : Answer ℕ → List ℕ
count_row (Ok n) = row n 0 0 0 0
count_row (Err r) = refused_row r 0

-- the place after the header and its four numbers
abbrev pub header_row : Answer (Header × ℕ) → List ℕ
header_row (Ok x) = row x.1 x.0.nonce x.0.time x.0.version x.0.bits
header_row (Err r) = refused_row r 0

-- 0 for not yet; 1 with the type, the payload's length and the bytes taken
abbrev pub prefix_row : Answer (Option Prefix) → List ℕ
prefix_row (Ok None) = row 0 0 0 0 0
prefix_row (Ok (Some p)) = row 1 p.packet_type p.length p.taken 0
prefix_row (Err r) = refused_row r 0

-- the type and the payload's length
abbrev pub exact_row : Answer Prefix → List ℕ
exact_row (Ok p) = row p.packet_type p.length 0 0 0
exact_row (Err r) = refused_row r 0

-- the frames' number, the length of their encodings and the held count
abbrev pub frames_row : Answer Frames → ℕ → List ℕ
frames_row (Ok f) held = row f.frames f.bytes held 0 0
frames_row (Err r) held = refused_row r held

abbrev pub pushed_row : Pushed → List ℕ
pushed_row p = frames_row p.delivered p.held

-- 0 or the refusal's number, then the frames' number, the length of their encodings and the held count in either case, then a and b.
-- c has no place: it is 0 in every refusal that a push gives.
abbrev pub verdict_row : Answer (Unit {0}) → ℕ → ℕ → ℕ → List ℕ
verdict_row (Ok u) frames bytes held = row frames bytes held 0 0
verdict_row (Err r) frames bytes held = number r ∷ frames ∷ bytes ∷ held ∷ get_or (values r) 0 0 ∷ get_or (values r) 1 0 ∷ []

abbrev pub delivered_row : Delivered → List ℕ
delivered_row d = verdict_row d.verdict d.frames d.bytes d.held
