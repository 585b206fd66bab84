-- Document 01's table as conditions, both ways: of the frame at the front, the exact frame and the frame writer, each answer with its values is given exactly when its case holds.
use Rattle.std.specs.Prelude.{ℕ, ◌+◌, ◌-◌, ◌≤◌, ◌<◌, ◌≡◌, List, ◌⊎◌, length, take, drop, Ok, Err}
use Rattle.hns_refusals.specs.declared.Refusal.{Refusal}
use Rattle.hns_refusals.specs.Limits.{header_size, max_payload}
use Rattle.hns_refusals.specs.Refusals.{number, trailing_bytes, magic_mismatch, payload_too_large, incomplete_frame, output_short}
use Rattle.hns_encoding.specs.Bytes.{le, Outcome, got, stop}
use Rattle.hns_encoding.specs.Put.{splice}
use Rattle.hns_p2p_frame.specs.declared.NetworkMagic.{NetworkMagic}
use Rattle.hns_p2p_frame.specs.Frame.{magic, Frame, encoding, Front, not_yet, whole, bad, payload_length, frame_of, front, decode_exact, Written, write_frame}

-- each follows from the other
infixl 5 ◌⇔◌
abbrev pub ◌⇔◌ : Type 0 → Type 0 → Type 0
A ⇔ B = (A → B) × (B → A)

-- ---- the frame at the front

pub data FrontIs (net : NetworkMagic) (xs : List ℕ) : Front → Type 0 where
  -- not yet: the header is not all there
  few : length xs < header_size → FrontIs net xs not_yet
  -- 4: another magic; a the one expected, b the one found
  wrong : header_size ≤ length xs → ¬ (take 4 xs ≡ magic net) → FrontIs net xs (bad (magic_mismatch (le (magic net)) (le (take 4 xs))))
  -- 5: the right magic, and a payload over its limit
  long : header_size ≤ length xs → take 4 xs ≡ magic net → max_payload < payload_length xs → FrontIs net xs (bad (payload_too_large (payload_length xs)))
  -- not yet: a good header, and its payload is not all there
  begun : header_size ≤ length xs → take 4 xs ≡ magic net → payload_length xs ≤ max_payload → length xs < header_size + payload_length xs → FrontIs net xs not_yet
  -- the frame and what follows it: a good header, and its payload is there
  full : header_size ≤ length xs → take 4 xs ≡ magic net → payload_length xs ≤ max_payload → header_size + payload_length xs ≤ length xs
      → FrontIs net xs (whole (frame_of xs) (drop (header_size + payload_length xs) xs))

-- `front_exactly` of proofs/Fronts.antt
abbrev pub FrontExactly : Type 0
FrontExactly = (net : NetworkMagic) (xs : List ℕ) (g : Front) → (front net xs ≡ g) ⇔ FrontIs net xs g

-- ---- exactly one frame

pub data ExactIs (net : NetworkMagic) (xs : List ℕ) : Outcome Frame → Type 0 where
  -- 4 and 5: as at the front
  header_bad : {r : Refusal} → FrontIs net xs (bad r) → ExactIs net xs (stop r)
  -- 8: not yet a frame; a the bytes of its header, then of its payload, that are missing
  header_missing : length xs < header_size → ExactIs net xs (stop (incomplete_frame (header_size - length xs)))
  payload_missing : header_size ≤ length xs → FrontIs net xs not_yet → ExactIs net xs (stop (incomplete_frame (header_size + payload_length xs - length xs)))
  -- 3: bytes after the frame; a how many
  bytes_after : {f : Frame} {rest : List ℕ} → FrontIs net xs (whole f rest) → 0 < length rest → ExactIs net xs (stop (trailing_bytes (length rest)))
  one_frame : {f : Frame} {rest : List ℕ} → FrontIs net xs (whole f rest) → length rest ≡ 0 → ExactIs net xs (got f (length xs))

-- `exact_exactly` of proofs/Exacts.antt
abbrev pub ExactExactly : Type 0
ExactExactly = (net : NetworkMagic) (xs : List ℕ) (a : Outcome Frame) → (decode_exact net xs ≡ a) ⇔ ExactIs net xs a

-- ---- the frame writer, with what it leaves in the output

pub data WriterIs (net : NetworkMagic) (f : Frame) (o : List ℕ) : Written → Type 0 where
  -- 5: a payload over its limit; nothing is written
  over : max_payload < length f.payload → WriterIs net f o (record { answer = Err (payload_too_large (length f.payload)); output = o })
  -- 16: an output that is too short, a what is needed; nothing is written
  short : length f.payload ≤ max_payload → length o < header_size + length f.payload → WriterIs net f o (record { answer = Err (output_short (header_size + length f.payload)); output = o })
  fits : length f.payload ≤ max_payload → header_size + length f.payload ≤ length o → WriterIs net f o (record { answer = Ok (header_size + length f.payload); output = splice o 0 (encoding net f) })

-- `writer_exactly` of proofs/Writes.antt
abbrev pub WriterExactly : Type 0
WriterExactly = (net : NetworkMagic) (f : Frame) (o : List ℕ) (w : Written) → (write_frame net f o ≡ w) ⇔ WriterIs net f o w

-- ---- demand 1: which refusals each can give, and that a refused writer writes nothing; `refusals_are` of proofs/Exacts.antt

pub record RefusalsAre (net : NetworkMagic) : Type 0 where
  pub of_front : (xs : List ℕ) (r : Refusal) → front net xs ≡ bad r → (number r ≡ 4) ⊎ (number r ≡ 5)
  pub of_exact : (xs : List ℕ) (r : Refusal) → decode_exact net xs ≡ stop r → (number r ≡ 3) ⊎ (number r ≡ 4) ⊎ (number r ≡ 5) ⊎ (number r ≡ 8)
  pub of_writer : (f : Frame) (o : List ℕ) (r : Refusal) → (write_frame net f o).answer ≡ Err r → ((number r ≡ 5) ⊎ (number r ≡ 16)) × ((write_frame net f o).output ≡ o)
