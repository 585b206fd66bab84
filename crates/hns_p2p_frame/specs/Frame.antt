-- Document 01, 'The frame': the encoding of a frame, the frame at the front of a list of bytes, the exact frame, and the writer.
use Rattle.std.specs.Prelude.{ℕ, ◌+◌, ◌-◌, ◌^◌, ◌≤◌, ◌<◌, List, [], ◌∷◌, ◌++◌, Bool, true, false, ◌&&◌, length, get_or, take, drop, leb, eqb, Ok, Err}
use Rattle.hns_refusals.specs.declared.Refusal.{Refusal}
use Rattle.hns_refusals.specs.Limits.{header_size, max_payload}
use Rattle.hns_refusals.specs.Refusals.{Answer, trailing_bytes, magic_mismatch, payload_too_large, incomplete_frame, output_short}
use Rattle.hns_encoding.specs.Bytes.{le, le_bytes, Bytes, choose, part, Outcome, got, stop}
use Rattle.hns_encoding.specs.Put.{splice, Put}
use Rattle.hns_p2p_frame.specs.declared.NetworkMagic.{NetworkMagic}
use Rattle.hns_p2p_frame.specs.declared.NetworkMagic.TheVariants.{Mainnet, Testnet, Regtest, Simnet}

unfoldable pub magic : NetworkMagic → List ℕ
magic Mainnet = 0xd3 ∷ 0xf2 ∷ 0x6e ∷ 0x5b ∷ []
magic Testnet = 0xd2 ∷ 0x0d ∷ 0x52 ∷ 0xb1 ∷ []
magic Regtest = 0xcf ∷ 0x95 ∷ 0x38 ∷ 0xae ∷ []
magic Simnet = 0xdc ∷ 0x8e ∷ 0x64 ∷ 0x0e ∷ []

pub record Frame : Type 0 where
  pub packet_type : ℕ
  pub payload : List ℕ

-- a frame that the writer accepts: its type and its payload are bytes, and the payload is within its limit
pub record WellFormed (f : Frame) : Type 0 where
  pub type_byte : f.packet_type < 256
  pub payload_bytes : Bytes f.payload
  pub within : length f.payload ≤ max_payload

-- magic (4 bytes), type (1), payload length (4), payload
unfoldable pub encoding : NetworkMagic → Frame → List ℕ
encoding net f = magic net ++ (f.packet_type ∷ (le_bytes 4 (length f.payload) ++ f.payload))

-- the encodings of frames, in order
unfoldable pub encodings : NetworkMagic → List Frame → List ℕ
encodings net [] = []
encodings net (f ∷ fs) = encoding net f ++ encodings net fs

-- ---- the frame at the front

-- what bytes begin with: not yet a frame, a frame and the bytes after it, or a bad header
pub data Front : Type 0 where
  not_yet : Front
  whole : Frame → List ℕ → Front
  bad : Refusal → Front

-- two strings of bytes are the same
unfoldable pub same : List ℕ → List ℕ → Bool
same [] [] = true
same [] (y ∷ ys) = false
same (x ∷ xs) [] = false
same (x ∷ xs) (y ∷ ys) = eqb x y && same xs ys

-- the payload length that a header says
unfoldable pub payload_length : List ℕ → ℕ
payload_length xs = le (part xs 5 4)

-- the frame that bytes begin with, where their header is good and its payload is there
abbrev pub frame_of : List ℕ → Frame
frame_of xs = record { packet_type = get_or xs 4 0; payload = part xs header_size (payload_length xs) }

-- Nothing is tested before a whole header is there, not even the magic. A bad header is then refused at once, its magic (4) before its length (5); a good one waits for its payload.
unfoldable pub front : NetworkMagic → List ℕ → Front
front net xs =
    choose (leb header_size (length xs))
    (choose (same (take 4 xs) (magic net))
    (choose (leb (payload_length xs) max_payload)
    (choose (leb (header_size + payload_length xs) (length xs)) (whole (frame_of xs) (drop (header_size + payload_length xs) xs)) not_yet)
    (bad (payload_too_large (payload_length xs))))
    (bad (magic_mismatch (le (magic net)) (le (take 4 xs)))))
    not_yet

-- the payload of the frame at the front; none where there is no frame
unfoldable pub payload_of : Front → List ℕ
payload_of not_yet = []
payload_of (whole f rest) = f.payload
payload_of (bad r) = []

-- ---- exactly one frame

-- how many bytes a frame lacks that is not yet there
unfoldable pub missing : List ℕ → ℕ
missing xs = choose (leb header_size (length xs)) (header_size + payload_length xs - length xs) (header_size - length xs)

-- all of xs is one frame: 8 where it is not yet there, 3 where bytes follow it
unfoldable pub exactly : List ℕ → Front → Outcome Frame
exactly xs not_yet = stop (incomplete_frame (missing xs))
exactly xs (whole f rest) = choose (eqb (length rest) 0) (got f (length xs)) (stop (trailing_bytes (length rest)))
exactly xs (bad r) = stop r

unfoldable pub decode_exact : NetworkMagic → List ℕ → Outcome Frame
decode_exact net xs = exactly xs (front net xs)

-- ---- writing

-- what the frame writer answers, and what the output holds after it
pub record Written : Type 0 where
  pub answer : Answer ℕ
  pub output : List ℕ

-- 5 before 16; what is written stands at the output's front, and no other byte changes
unfoldable pub write_frame : NetworkMagic → Frame → List ℕ → Written
write_frame net f o =
    choose (leb (length f.payload) max_payload)
    (choose (leb (length (encoding net f)) (length o))
    (record { answer = Ok (length (encoding net f)); output = splice o 0 (encoding net f) })
    (record { answer = Err (output_short (length (encoding net f))); output = o }))
    (record { answer = Err (payload_too_large (length f.payload)); output = o })

-- ---- a payload behind a frame's header

-- `framed` of proofs/Writes.antt: the header of a payload put at a place, and then the payload, are the frame's encoding put there
abbrev pub Framed : Type 0
Framed =
    (net : NetworkMagic) (f : Frame) (o o₁ o₂ : List ℕ) (at at₁ at₂ : ℕ) → length o < 2 ^ 64
    → Put o at (magic net ++ (f.packet_type ∷ le_bytes 4 (length f.payload))) o₁ at₁ → Put o₁ at₁ f.payload o₂ at₂ → Put o at (encoding net f) o₂ at₂
