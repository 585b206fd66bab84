-- What an exported survey says of its log, what its text determines, and that the steps of the survey program write it. Each theorem is stated here under a name, with where it is proved.
use Rattle.std.specs.Prelude.{ℕ, ◌≤◌, ◌<◌, ◌≡◌, List, ◌++◌, ◌⊎◌, length, take, drop}
use Rattle.hns_refusals.specs.declared.Refusal.{Refusal}
use Rattle.hns_refusals.specs.Refusals as Refusals
use Rattle.hns_encoding.specs.Bytes.{Bytes}
use Rattle.hns_encoding.specs.Format.{All}
use Rattle.hns_p2p_frame.specs.declared.NetworkMagic.TheVariants.{Mainnet}
use Rattle.hns_p2p_frame.specs.Pushed.{Accepted, Refused}
use Rattle.hns_p2p_frame.specs.Frame.{Frame, WellFormed, encodings, not_yet}
use Rattle.hns_p2p_frame.specs.Conditions.{FrontIs}
use Rattle.hns_p2p_frame.specs.Push.{Result, push}
use Rattle.hns_p2p_stream.specs.Stream.{Delivers}
use Rattle.survey_export.specs.Text.{line}
use Rattle.survey_export.specs.Survey.{chunk_size, room_size, text_size, delivered, Survey, held, stop, text, survey}
use Rattle.survey_export.specs.Program.{written}

-- ---- log and export agree

-- a survey between chunks: store, held count, output, and what is left of the log
pub record State : Type 0 where
  pub store : List ℕ
  pub count : ℕ
  pub output : List ℕ
  pub log : List ℕ

-- before the first chunk
abbrev pub start : List ℕ → List ℕ → List ℕ → State
start s o log = record { store = s; count = 0; output = o; log = log }

-- the push of the next chunk
abbrev pub pushed : State → Result
pushed z = push Mainnet z.store z.count (take chunk_size z.log) z.output

-- after it, where it was accepted and answered a held count
abbrev pub stepped : State → ℕ → State
stepped z h = record { store = (pushed z).store; count = h; output = (pushed z).output; log = drop chunk_size z.log }

-- accepted pushes of chunks that are not empty lead from one state to another
pub data Leads : State → State → Type 0 where
  here : {z : State} → Leads z z
  more : {z w : State} {frames bytes h : ℕ} → 0 < length z.log → (pushed z).answer ≡ Accepted frames bytes h → Leads (stepped z h) w → Leads z w

-- R is the number of the refusal of the push that stopped a survey: accepted pushes led to it, and `rest` is what was held then and what was left of the log
pub record StoppedBy (z : State) (r : ℕ) (rest : List ℕ) : Type 0 where
  pub last : State
  pub leads : Leads z last
  pub there : rest ≡ take last.count last.store ++ last.log
  pub refusal : Refusal
  pub refused : (h : ℕ) × ((pushed last).answer ≡ Refused refusal h)
  pub number : Refusals.number refusal ≡ r

-- what a survey that began in a state z says of the log, which is what was held in z and then what was left to read
pub record Agrees (log : List ℕ) (z : State) (v : Survey) : Type 0 where
  -- where the export ends in `held N`, the log is the encodings of the frames on its lines, in order, and then N bytes that are not yet a frame: no complete one, and no bad header
  pub held_agrees : (n : ℕ) → v.last ≡ held n
      → (rest : List ℕ) × (log ≡ encodings Mainnet v.frames ++ rest) × (length rest ≡ n) × FrontIs Mainnet rest not_yet
  -- where it ends in `stop R`, the frames on its lines are a front of the log, and R is the refusal of the push that stopped it
  pub stop_agrees : (r : ℕ) → v.last ≡ stop r
      → (rest : List ℕ) × (log ≡ encodings Mainnet v.frames ++ rest) × StoppedBy z r rest
  -- and the frames on its lines are frames that the writer accepts
  pub well_formed : All WellFormed v.frames

-- `agreement` of proofs/Agreement.antt: of every log of bytes, every store and every output, of any length
abbrev pub LogAndExportAgree : Type 0
LogAndExportAgree = (s o log : List ℕ) → Bytes log → Agrees log (start s o log) (survey s o log)

-- `lines_delivered` of proofs/Agreement.antt: the frames on the lines of an accepted push are those that demand 3 calls delivered, as many as the answered number
abbrev pub LinesAreDelivered : Type 0
LinesAreDelivered =
    (s : List ℕ) (h : ℕ) (x o : List ℕ) → h ≤ length s → Bytes (take h s) → Bytes x → (n b k : ℕ) → (push Mainnet s h x o).answer ≡ Accepted n b k
    → Delivers Mainnet (Accepted n b k) (push Mainnet s h x o).output (delivered b (push Mainnet s h x o).output)

-- the last lines that the program can give: a stop is 4, 5 or 17, and what is held is in its store
pub record LastLine (v : Survey) : Type 0 where
  pub stops : (r : ℕ) → v.last ≡ stop r → (r ≡ 4) ⊎ (r ≡ 5) ⊎ (r ≡ 17)
  pub holds : (n : ℕ) → v.last ≡ held n → n ≤ room_size

-- `last_lines` of proofs/LastLines.antt, with the program's own store and output
abbrev pub LastLines : Type 0
LastLines = (s o log : List ℕ) → Bytes log → length s ≡ room_size → length o ≡ room_size → LastLine (survey s o log)

-- ---- what a text determines

-- `same_line` of proofs/Determined.antt: an exported line determines its frame, and where it ends
abbrev pub LineDetermines : Type 0
LineDetermines =
    (f g : Frame) (x y : List ℕ) → WellFormed f → WellFormed g → line f.packet_type f.payload ++ x ≡ line g.packet_type g.payload ++ y → (f ≡ g) × (x ≡ y)

-- `same_survey` of proofs/Same.antt: surveys of one text are one survey, the same frames and the same last line with its number
abbrev pub TextDetermines : Type 0
TextDetermines =
    (s o log s' o' log' : List ℕ) → Bytes log → Bytes log' → text (survey s o log) ≡ text (survey s' o' log') → survey s o log ≡ survey s' o' log'

-- ---- the program's steps

-- `written_whole` of proofs/Written.antt: chunk after chunk, what the steps of `take_chunk` have the program write is the survey's text, with an output and a text of the program's sizes
abbrev pub WritesTheSurvey : Type 0
WritesTheSurvey =
    (s o t log : List ℕ) → length o ≡ room_size → length t ≡ text_size → written s o t log ≡ text (survey s o log)
