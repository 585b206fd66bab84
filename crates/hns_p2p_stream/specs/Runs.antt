-- Lists of pushes of any kind, each with what it was given and what it left: document 01's words of a list, 'The stream', for whichever push a call names.
-- A push shows one step (`Step` of proofs/Runs.antt), and what is said there of lists then holds of it, alone or mixed with others.
use Rattle.std.specs.Prelude.{ℕ, ◌≤◌, ◌≡◌, List, [], ◌∷◌, ◌++◌, length, take}
use Rattle.hns_refusals.specs.declared.Refusal.{Refusal}
use Rattle.hns_encoding.specs.Bytes.{Bytes, choose}
use Rattle.hns_encoding.specs.Format.{All}
use Rattle.hns_p2p_frame.specs.declared.NetworkMagic.{NetworkMagic}
use Rattle.hns_p2p_frame.specs.Delivered.{Delivered, Accepted, Refused}
use Rattle.hns_p2p_frame.specs.Frame.{Frame, WellFormed, encodings}
use Rattle.hns_p2p_stream.specs.Stream.{for_header}

-- ---- one push

pub data Verdict : Type 0 where
  accepted : Verdict
  refused_by : Refusal → Verdict

-- what a push answered: how many frames it delivered, the length of their encodings, how many bytes are held, and whether it was refused
pub record Told : Type 0 where
  pub frames : ℕ
  pub bytes : ℕ
  pub held : ℕ
  pub verdict : Verdict

unfoldable pub told : Delivered → Told
told (Accepted frames bytes held) = record { frames = frames; bytes = bytes; held = held; verdict = accepted }
told (Refused refusal frames bytes held) = record { frames = frames; bytes = bytes; held = held; verdict = refused_by refusal }

-- a stream between pushes: its store, the held count last answered, and what else is handed from push to push, as a tally
pub record Stream (T : Type 0) : Type 0 where
  pub store : List ℕ
  pub count : ℕ
  pub also : T

-- held bytes: the store's first
abbrev pub held_of : {T : Type 0} → Stream T → List ℕ
held_of z = take z.count z.store

-- what a push leaves
pub record Left (T : Type 0) : Type 0 where
  pub answer : Told
  pub store : List ℕ
  pub output : List ℕ
  pub also : T

abbrev pub after : {T : Type 0} → Left T → Stream T
after p = record { store = p.store; count = p.answer.held; also = p.also }

-- a push of an input, with an output, to a stream
abbrev pub PushOn : Type 0 → Type 0
PushOn T = NetworkMagic → Stream T → List ℕ → List ℕ → Left T

-- a call names its push
pub record Call (T : Type 0) : Type 0 where
  pub push : PushOn T
  pub input : List ℕ
  pub output : List ℕ

-- bytes received: the input of a push that was accepted or refused for a header; none where it was turned away before the append
unfoldable pub taking : Verdict → List ℕ → List ℕ
taking accepted x = x
taking (refused_by r) x = choose (for_header r) x []

-- frames delivered: as many as the answered number, and their encodings fill the answered length at the output's front
abbrev pub Hands : NetworkMagic → Told → List ℕ → List Frame → Type 0
Hands net a o fs = (length fs ≡ a.frames) × (encodings net fs ≡ take a.bytes o) × (a.bytes ≤ length o)

-- ---- a list

-- all bytes received and all frames delivered
pub record Total : Type 0 where
  pub received : List ℕ
  pub frames : List Frame

-- a push of x that delivered fs and left p, and then others
abbrev pub adding : {T : Type 0} → Left T → List ℕ → List Frame → Total → Total
adding p x fs w =
    record { received = taking p.answer.verdict x ++ w.received; frames = fs ++ w.frames }

-- the calls of a list in order, each on the stream that the one before it left: from a stream to a stream
pub data Run {T : Type 0} (net : NetworkMagic) : Stream T → List (Call T) → Total → Stream T → Type 0 where
  none : {z : Stream T} → Run net z [] (record { received = []; frames = [] }) z
  more : {z z' : Stream T} {c : Call T} {cs : List (Call T)} {w : Total} (fs : List Frame)
      → Hands net (c.push net z c.input c.output).answer (c.push net z c.input c.output).output fs
      → Run net (after (c.push net z c.input c.output)) cs w z'
      → Run net z (c ∷ cs) (adding (c.push net z c.input c.output) c.input fs w) z'

-- what holds of the calls cs from a stream z that held nothing
pub record ListHolds {T : Type 0} (net : NetworkMagic) (z : Stream T) (cs : List (Call T)) : Type 0 where
  -- the outputs hold frames as the answers say, and one list of them only
  pub runs : (w : Total) × (z' : Stream T) × Run net z cs w z'
  pub one_list : {w v : Total} {z' y : Stream T} → Run net z cs w z' → Run net z cs v y → (w ≡ v) × (z' ≡ y)
  -- all bytes received are the encodings of the frames delivered, in order, then the held bytes
  pub all_bytes : {w : Total} {z' : Stream T} → Run net z cs w z' → w.received ≡ encodings net w.frames ++ held_of z'
  -- frames delivered are frames that the writer accepts, the store keeps its length, and it has as many bytes as the held count says
  pub well_formed : {w : Total} {z' : Stream T} → Run net z cs w z' → All WellFormed w.frames
  pub same_length : {w : Total} {z' : Stream T} → Run net z cs w z' → length z'.store ≡ length z.store
  pub held_there : {w : Total} {z' : Stream T} → Run net z cs w z' → z'.count ≤ length z'.store

-- calls with inputs that are bytes, each of a push of which A holds
abbrev pub Calls : {T : Type 0} → (PushOn T → Type 0) → List (Call T) → Type 0
Calls A cs = All (λ c. A c.push × Bytes c.input) cs
