-- Document 02, T-01: a tally of frames by their type bytes, as numbers in a row.
use Rattle.std.specs.Prelude.{ℕ, ◌+◌, ◌-◌, ◌^◌, ◌≤◌, ◌<◌, List, [], ◌∷◌, Bool, ◌&&◌, ◌⊎◌, length, get_or, set, leb, eqb}
use Rattle.hns_refusals.specs.Limits.{header_size}
use Rattle.hns_encoding.specs.Bytes.{choose, part}
use Rattle.hns_encoding.specs.Put.{advance}
use Rattle.hns_p2p_frame.specs.Frame.{Frame}

-- for each of the 256 type bytes the frames, then for each their bytes, then the total of the frames and that of the bytes
abbrev pub tally_size : ℕ
tally_size = 514

abbrev pub bytes_from : ℕ
bytes_from = 256

abbrev pub frame_total : ℕ
frame_total = 512

abbrev pub byte_total : ℕ
byte_total = 513

-- the bytes of a frame: payload plus 9
abbrev pub size_of : Frame → ℕ
size_of f = header_size + length f.payload

-- n more at a place, or 2^64 - 1 where that is more
unfoldable pub add_at : List ℕ → ℕ → ℕ → List ℕ
add_at t i n = set t i (advance (get_or t i 0) n)

-- one frame more, of type k and n bytes, at its type's two places
unfoldable pub at_type : List ℕ → ℕ → ℕ → List ℕ
at_type t k n = add_at (add_at t k 1) (bytes_from + k) n

-- and in both totals
unfoldable pub with_frame : List ℕ → ℕ → ℕ → List ℕ
with_frame t k n = add_at (add_at (at_type t k n) frame_total 1) byte_total n

-- frames counted on top of a tally
unfoldable pub recount : List ℕ → List Frame → List ℕ
recount t [] = t
recount t (f ∷ fs) = recount (with_frame t f.packet_type (size_of f)) fs

-- the most that a total may be: 2^63 - 1
abbrev pub most_counted : ℕ
most_counted = 2 ^ 63 - 1

-- neither total passes it with n more
unfoldable pub roomy : List ℕ → ℕ → Bool
roomy t n = leb (get_or t frame_total 0 + n) most_counted && leb (get_or t byte_total 0 + n) most_counted

-- as conditions: all numbers of a tally are there, and neither total passes it with n more; one of them does
pub record Roomy (t : List ℕ) (n : ℕ) : Type 0 where
  pub size : tally_size ≤ length t
  pub frames : get_or t frame_total 0 + n ≤ most_counted
  pub bytes : get_or t byte_total 0 + n ≤ most_counted

abbrev pub Passes : List ℕ → ℕ → Type 0
Passes t n = (most_counted < get_or t frame_total 0 + n) ⊎ (most_counted < get_or t byte_total 0 + n)

-- ---- a recount, told by the frames alone

-- how many of the frames have a type
unfoldable pub frames_of : ℕ → List Frame → ℕ
frames_of k [] = 0
frames_of k (f ∷ fs) = choose (eqb f.packet_type k) 1 0 + frames_of k fs

-- and how many bytes they have
unfoldable pub bytes_of : ℕ → List Frame → ℕ
bytes_of k [] = 0
bytes_of k (f ∷ fs) = choose (eqb f.packet_type k) (size_of f) 0 + bytes_of k fs

unfoldable pub sum : List ℕ → ℕ
sum [] = 0
sum (n ∷ ns) = n + sum ns

-- the numbers of the frames, and those of the bytes
abbrev pub frame_counts : List ℕ → List ℕ
frame_counts t = part t 0 256

abbrev pub byte_counts : List ℕ → List ℕ
byte_counts t = part t bytes_from 256
