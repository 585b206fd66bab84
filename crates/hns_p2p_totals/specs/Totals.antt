-- Document 02, T-01: what holds of every list of tallying pushes from an empty stream, of any push; the theorem is that it holds of `push_tallying`.
use Rattle.std.specs.Prelude.{ℕ, ◌+◌, ◌<◌, ◌≡◌, List, length, get_or, replicate, T}
use Rattle.hns_p2p_frame.specs.declared.NetworkMagic.{NetworkMagic}
use Rattle.hns_p2p_stream.specs.Stream.{for_header}
use Rattle.hns_p2p_stream.specs.Conditions.{Fits}
use Rattle.hns_p2p_stream.specs.Runs.{Verdict, accepted, refused_by, told, Stream, Left, PushOn, Call, Total, Run, ListHolds, Calls}
use Rattle.hns_p2p_tally.specs.Tally.{bytes_from, frame_total, byte_total, recount, Roomy, frames_of, bytes_of, sum, frame_counts, byte_counts}
use Rattle.hns_p2p_tally.specs.Tallying.{Result, push_tallying}

-- the tally is what is handed on besides store and held count
abbrev pub leaves : Result → Left (List ℕ)
leaves p = record { answer = told p.answer; store = p.store; output = p.output; also = p.tally }

unfoldable pub tallying_ported : PushOn (List ℕ)
tallying_ported net z x o = leaves (push_tallying net z.store z.count x o z.also)

-- a tally whose two totals are its sums: zeros, and what is carried on to a further stream
pub record Summed (t : List ℕ) : Type 0 where
  pub frames : get_or t frame_total 0 ≡ sum (frame_counts t)
  pub bytes : get_or t byte_total 0 ≡ sum (byte_counts t)

-- `zeros_summed` of proofs/Totals.antt
abbrev pub ZerosSummed : Type 0
ZerosSummed = (n : ℕ) → Summed (replicate n 0)

-- an empty stream, with the tally t
abbrev pub begun : List ℕ → List ℕ → Stream (List ℕ)
begun s t = record { store = s; count = 0; also = t }

-- what a list of pushes makes of the tally t, which received and delivered w and left the stream z
pub record Tallied (t : List ℕ) (w : Total) (z : Stream (List ℕ)) : Type 0 where
  -- the tally equals a recount of all frames delivered
  pub recounted : z.also ≡ recount t w.frames
  -- so that for each type byte it has their number and their bytes more
  pub frames : (k : ℕ) → k < 256 → get_or z.also k 0 ≡ get_or t k 0 + frames_of k w.frames
  pub bytes : (k : ℕ) → k < 256 → get_or z.also (bytes_from + k) 0 ≡ get_or t (bytes_from + k) 0 + bytes_of k w.frames
  -- its totals are its sums again
  pub summed : Summed z.also
  pub frame_total_is : get_or z.also frame_total 0 ≡ get_or t frame_total 0 + length w.frames
  -- of zeros: the byte total plus the held bytes equals the bytes received
  pub byte_total_is : get_or z.also byte_total 0 + z.count ≡ get_or t byte_total 0 + length w.received

-- accepted, or refused for a header
unfoldable pub NotTurnedAway : Verdict → Type 0
NotTurnedAway accepted = Unit {0}
NotTurnedAway (refused_by r) = T (for_header r)

-- the calls cs of the push P, from the stream z
pub record TallyHolds (P : PushOn (List ℕ)) (net : NetworkMagic) (z : Stream (List ℕ)) (cs : List (Call (List ℕ))) : Type 0 where
  -- what holds of every list of pushes: all bytes received are the frames delivered and then the held bytes
  pub list : ListHolds net z cs
  pub tally : {w : Total} {z' : Stream (List ℕ)} → Run net z cs w z' → Tallied z.also w z'
  -- a next push that fits is taken
  pub next_taken : {w : Total} {z' : Stream (List ℕ)} → Run net z cs w z' → (x o : List ℕ) → Fits z'.store z'.count x o → Roomy z'.also (z'.count + length x)
      → NotTurnedAway (P net z' x o).answer.verdict

-- of every network, every store, every tally whose totals are its sums, and every list of calls whose inputs are bytes
abbrev pub TallyFor : PushOn (List ℕ) → Type 0
TallyFor P =
    (net : NetworkMagic) (s t : List ℕ) → Summed t → (cs : List (Call (List ℕ))) → Calls (λ Q. Q ≡ P) cs → TallyHolds P net (begun s t) cs

-- The theorem, `tallies` of proofs/Totals.antt.
abbrev pub TalliesHold : Type 0
TalliesHold = TallyFor tallying_ported
