-- Document 01, 'The exported survey': the lines of a chunk of a mainnet peer log, the survey of a log, and a step of the survey program.
use Rattle.std.specs.Prelude.{ℕ, zero, suc, ◌-◌, ◌*◌, List, [], ◌∷◌, ◌++◌, length, take, drop, leb, eqb, Some, None}
use Rattle.hns_refusals.specs.Refusals.{number}
use Rattle.hns_encoding.specs.Bytes.{choose}
use Rattle.hns_encoding.specs.Put.{splice, advance}
use Rattle.hns_p2p_frame.specs.declared.NetworkMagic.TheVariants.{Mainnet}
use Rattle.hns_p2p_frame.specs.Pushed.{Pushed, Accepted, Refused}
use Rattle.hns_p2p_frame.specs.Frame.{Frame}
use Rattle.hns_p2p_frame.specs.Walk.{cut}
use Rattle.hns_p2p_frame.specs.Push.{push}
use Rattle.survey_export.specs.declared.Step.{Step}
use Rattle.survey_export.specs.Text.{line, held_line, stop_line}

-- a full chunk; the last of a log may be shorter
abbrev pub chunk_size : ℕ
chunk_size = 4096

-- the program's store and its output
abbrev pub room_size : ℕ
room_size = 24576

-- the program's text, and how much of it is kept for more lines before it is written out: those of a chunk, at most twice the output, and a last line still fit behind
abbrev pub text_size : ℕ
text_size = 65536

abbrev pub kept_text : ℕ
kept_text = text_size - 2 * room_size - 32

-- ---- lines

-- a line for each frame
unfoldable pub lines : List Frame → List ℕ
lines [] = []
lines (f ∷ fs) = line f.packet_type f.payload ++ lines fs

-- the last line: how many bytes are held where the log is over, or the number of the refusal that stopped the survey
pub data Last : Type 0 where
  held : ℕ → Last
  stop : ℕ → Last

unfoldable pub last_text : Last → List ℕ
last_text (held n) = held_line n
last_text (stop r) = stop_line r

-- ---- a chunk

-- what a chunk adds to a survey: frames, and then the held count with which it goes on, or the last line
pub data Added : Type 0 where
  goes_on : List Frame → ℕ → Added
  ends : List Frame → Last → Added

unfoldable pub added_text : Added → List ℕ
added_text (goes_on fs h) = lines fs
added_text (ends fs l) = lines fs ++ last_text l

-- the frames that an accepted push delivered: those that fill the answered length at the output's front
abbrev pub delivered : ℕ → List ℕ → List Frame
delivered bytes output = (cut Mainnet (take bytes output)).frames

-- by what the push of a chunk of n bytes answered, and its output: a chunk that is not full is the last, and the first refused push stops the survey
unfoldable pub added_by : ℕ → Pushed → List ℕ → Added
added_by n (Accepted frames bytes h) o =
    choose (leb chunk_size n) (goes_on (delivered bytes o) h) (ends (delivered bytes o) (held h))
added_by n (Refused r h) o = ends [] (stop (number r))

-- what a chunk leaves
pub record Chunk : Type 0 where
  pub added : Added
  pub store : List ℕ
  pub output : List ℕ

-- the chunk x on a stream whose store is s and whose held count is h; an empty one says that the log is over
unfoldable pub chunk : List ℕ → ℕ → List ℕ → List ℕ → Chunk
chunk s h x o =
    choose (eqb (length x) 0)
    (record { added = ends [] (held h); store = s; output = o })
    (let p = push Mainnet s h x o in
    record { added = added_by (length x) p.answer p.output; store = p.store; output = p.output })

-- ---- the survey of a log

-- the frames of its lines, and its last line
pub record Survey : Type 0 where
  pub frames : List Frame
  pub last : Last

unfoldable pub text : Survey → List ℕ
text v = lines v.frames ++ last_text v.last

-- what a chunk adds, and then the survey of what follows
unfoldable pub survey_by : Added → (ℕ → Survey) → Survey
survey_by (goes_on fs h) go = record { frames = fs ++ (go h).frames; last = (go h).last }
survey_by (ends fs l) go = record { frames = fs; last = l }

-- at most n chunks, from a store s, a held count h and an output o on
unfoldable pub survey_from : ℕ → List ℕ → ℕ → List ℕ → List ℕ → Survey
survey_from zero s h o log = record { frames = []; last = held h }
survey_from (suc n) s h o log =
    let c = chunk s h (take chunk_size log) o in
    survey_by c.added (λ h'. survey_from n c.store h' c.output (drop chunk_size log))

-- a full chunk has a byte at least, so there are no more of them than bytes
unfoldable pub survey : List ℕ → List ℕ → List ℕ → Survey
survey s o log = survey_from (suc (length log)) s 0 o log

-- ---- a step of the program: its contract

-- what a step leaves: the answer, store and output, and the text, with what the chunk adds at a place of it
pub record Taken : Type 0 where
  pub answer : Step
  pub store : List ℕ
  pub output : List ℕ
  pub text : List ℕ

-- the first bytes of the text are written out, and the survey goes on with a held count and a place
abbrev pub go_on : ℕ → ℕ → ℕ → Step
go_on h at write = record { write = write; next = Some (record { held = h; position = at }) }

-- and it is over
abbrev pub over : ℕ → Step
over write = record { write = write; next = None }

-- after lines up to a place: on from there, or from the text's front once it is written out
unfoldable pub goes_on_at : ℕ → ℕ → Step
goes_on_at h at = choose (leb at kept_text) (go_on h at 0) (go_on h 0 at)

unfoldable pub step_by : Added → ℕ → Step
step_by (goes_on fs h) at = goes_on_at h at
step_by (ends fs l) at = over at

unfoldable pub take_chunk : List ℕ → ℕ → List ℕ → List ℕ → List ℕ → ℕ → Taken
take_chunk s h x o t at =
    let c = chunk s h x o in
    let y = added_text c.added in
    record { answer = step_by c.added (advance at (length y)); store = c.store; output = c.output; text = splice t at y }
