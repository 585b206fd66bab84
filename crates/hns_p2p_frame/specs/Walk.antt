-- Document 01, 'The stream': the walk over the frames of a list of bytes. Lines, claims and code go by this one definition.
use Rattle.std.specs.Prelude.{ℕ, zero, suc, List, [], ◌∷◌, ◌++◌, length}
use Rattle.hns_refusals.specs.declared.Refusal.{Refusal}
use Rattle.hns_p2p_frame.specs.declared.NetworkMagic.{NetworkMagic}
use Rattle.hns_p2p_frame.specs.Frame.{Frame, Front, not_yet, whole, bad, front}

-- why it ended: what is left is not yet a frame, or it begins with a bad header
pub data Why : Type 0 where
  unfinished : Why
  bad_header : Refusal → Why

-- the frames before its end, the bytes after them, and why it ended
pub record Cutting : Type 0 where
  pub frames : List Frame
  pub rest : List ℕ
  pub why : Why

-- bytes that begin with no whole frame
abbrev pub ended : List ℕ → Why → Cutting
ended xs y = record { frames = []; rest = xs; why = y }

-- frames before those of a cutting
abbrev pub before : List Frame → Cutting → Cutting
before fs c = record { frames = fs ++ c.frames; rest = c.rest; why = c.why }

-- the cutting of xs by what they begin with
unfoldable pub onwards : Front → List ℕ → (List ℕ → Cutting) → Cutting
onwards not_yet xs go = ended xs unfinished
onwards (whole f rest) xs go = before (f ∷ []) (go rest)
onwards (bad r) xs go = ended xs (bad_header r)

-- at most n frames
unfoldable pub cut_up_to : ℕ → NetworkMagic → List ℕ → Cutting
cut_up_to zero net xs = ended xs unfinished
cut_up_to (suc n) net xs = onwards (front net xs) xs (cut_up_to n net)

-- a frame has nine bytes at least, so there are no more frames than bytes
unfoldable pub cut : NetworkMagic → List ℕ → Cutting
cut net xs = cut_up_to (length xs) net xs

-- the frames that bytes begin with and the bytes after them, or the refusal of a bad header
pub data Walked : Type 0 where
  stopped : List Frame → List ℕ → Walked
  refused : Refusal → Walked

-- what a push reads from it: a bad header hides the frames before it
unfoldable pub walked_for : Why → List Frame → List ℕ → Walked
walked_for unfinished fs rest = stopped fs rest
walked_for (bad_header r) fs rest = refused r

unfoldable pub walk : NetworkMagic → List ℕ → Walked
walk net xs = walked_for (cut net xs).why (cut net xs).frames (cut net xs).rest
