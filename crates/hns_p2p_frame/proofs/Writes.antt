-- The cases of the frame writer; a frame's header and its payload, put one after the other. Assumes nothing.
use Prim.Native.Nat.{ℕ, ◌+◌, ◌≤◌, ◌<◌}
use mathlib.Core.Path.{◌≡◌}
use mathlib.Core.List.{List, ◌∷◌, append_assoc}
use lib.ListN.{length}
use borrow.Author.Tests.{le-leb, lt-leb}
use Rattle.std.specs.Prelude.{Ok, Err}
use Rattle.hns_refusals.specs.Refusals.{payload_too_large, output_short}
use Rattle.hns_refusals.specs.Limits.{header_size, max_payload}
use Rattle.hns_encoding.specs.Bytes.{le_bytes}
use Rattle.hns_encoding.specs.Put.{splice}
use Rattle.hns_encoding.proofs.Outcomes.{choose_leb}
use Rattle.hns_encoding.proofs.Puts.{then}
use Rattle.hns_p2p_frame.specs.declared.NetworkMagic.{NetworkMagic}
use Rattle.hns_p2p_frame.specs.Frame.{magic, Frame, encoding, Written, write_frame, Framed}
use Rattle.hns_p2p_frame.specs.Conditions as W
use Rattle.hns_p2p_frame.specs.Conditions.{WriterIs, WriterExactly}
use Rattle.hns_p2p_frame.proofs.Walks.{length_encoding}

pub writes : (net : NetworkMagic) (f : Frame) (o : List ℕ) → WriterIs net f o (write_frame net f o)
unfolding write_frame
writes net f o =
    rw (length_encoding net f)
    (choose_leb (WriterIs net f o) (length f.payload) max_payload
    (λ a. choose_leb (WriterIs net f o) (header_size + length f.payload) (length o) (λ b. W.fits a b) (λ b. W.short a b))
    (λ a. W.over a))

-- the other way: a case's facts say which it is
pub writer_is : {net : NetworkMagic} {f : Frame} {o : List ℕ} {w : Written} → WriterIs net f o w → write_frame net f o ≡ w
unfolding write_frame
writer_is {f = f} (W.over a) = rw (lt-leb (length f.payload) max_payload a)
writer_is {net} {f} {o} (W.short a b) = rw (length_encoding net f, le-leb (length f.payload) max_payload a, lt-leb (header_size + length f.payload) (length o) b)
writer_is {net} {f} {o} (W.fits a b) = rw (length_encoding net f, le-leb (length f.payload) max_payload a, le-leb (header_size + length f.payload) (length o) b)

module _ (net : NetworkMagic) (f : Frame) (o : List ℕ) where
  pub over_is : max_payload < length f.payload → write_frame net f o ≡ record { answer = Err (payload_too_large (length f.payload)); output = o }
  over_is a = writer_is (W.over a)

  pub short_is : length f.payload ≤ max_payload → length o < header_size + length f.payload → write_frame net f o ≡ record { answer = Err (output_short (header_size + length f.payload)); output = o }
  short_is a b = writer_is (W.short a b)

  pub fits_is : length f.payload ≤ max_payload → header_size + length f.payload ≤ length o → write_frame net f o ≡ record { answer = Ok (header_size + length f.payload); output = splice o 0 (encoding net f) }
  fits_is a b = writer_is (W.fits a b)

pub writer_exactly : WriterExactly
writer_exactly net f o w = (λ e. rw e at (writes net f o), writer_is)

pub framed : Framed
unfolding encoding
framed net f o o₁ o₂ at at₁ at₂ h a b =
    rw (append_assoc (magic net) (f.packet_type ∷ le_bytes 4 (length f.payload)) f.payload) at (then h a b)
