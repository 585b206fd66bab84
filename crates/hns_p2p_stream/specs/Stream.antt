-- Demand 3 on lists of pushes, of any function P of push's type; the theorem is that it holds of `push`.
-- Each word of the demand is a definition below, as document 01's section 'The stream' has it, and each clause is a field of `Demand3`.
use Rattle.std.specs.Prelude.{ℕ, ◌+◌, ◌-◌, ◌≤◌, ◌≡◌, List, [], ◌∷◌, ◌++◌, Bool, true, ◌⊎◌, length, take, eqb, T}
use Rattle.hns_refusals.specs.declared.Refusal.{Refusal}
use Rattle.hns_refusals.specs.Limits.{header_size, max_payload, max_stream}
use Rattle.hns_refusals.specs.Refusals.{number, stream_too_large, store_short, output_short}
use Rattle.hns_encoding.specs.Bytes.{Bytes, choose}
use Rattle.hns_encoding.specs.Format.{All}
use Rattle.hns_p2p_frame.specs.declared.NetworkMagic.{NetworkMagic}
use Rattle.hns_p2p_frame.specs.Pushed.{Pushed, Accepted, Refused}
use Rattle.hns_p2p_frame.specs.Frame.{magic, Frame, WellFormed, encodings, payload_length}
use Rattle.hns_p2p_frame.specs.Push.{Result, push}

-- 8,000,008: a header and a payload of its greatest length, less one byte
abbrev pub most_held : ℕ
most_held = header_size + max_payload - 1

-- 8,000,010: what the stream then has room for
abbrev pub next_input : ℕ
next_input = max_stream - most_held

-- ---- a list of pushes

-- network, store, held count, input and output to answer, store and output
abbrev pub AnyPush : Type 0
AnyPush = NetworkMagic → List ℕ → ℕ → List ℕ → List ℕ → Result

-- what the caller gives at each push
pub record Call : Type 0 where
  pub input : List ℕ
  pub output : List ℕ

-- what a push was given, and what it left
pub record Event : Type 0 where
  pub input : List ℕ
  pub answer : Pushed
  pub store : List ℕ
  pub output : List ℕ

-- the held count that a push answers
unfoldable pub held_count : Pushed → ℕ
held_count (Accepted frames bytes held) = held
held_count (Refused refusal held) = held

-- a push on a stream whose store is s and whose held count is h
unfoldable pub event : AnyPush → NetworkMagic → List ℕ → ℕ → Call → Event
event P net s h c =
    let p = P net s h c.input c.output in
    record { input = c.input; answer = p.answer; store = p.store; output = p.output }

-- the pushes of a list, each with the held count and the store that the one before it left
unfoldable pub events : AnyPush → NetworkMagic → List ℕ → ℕ → List Call → List Event
events P net s h [] = []
events P net s h (c ∷ cs) =
    event P net s h c ∷ events P net (event P net s h c).store (held_count (event P net s h c).answer) cs

-- the store after a list of pushes, which was s before it
unfoldable pub store_after : List ℕ → List Event → List ℕ
store_after s [] = s
store_after s (e ∷ es) = store_after e.store es

-- the held count last answered, which was h before the first push
unfoldable pub count_after : ℕ → List Event → ℕ
count_after h [] = h
count_after h (e ∷ es) = count_after (held_count e.answer) es

-- held bytes: the store's first, as many as the held count says; none before the first push
unfoldable pub held_after : List ℕ → List Event → List ℕ
held_after s es = take (count_after 0 es) (store_after s es)

-- ---- bytes received

-- 4 or 5
unfoldable pub for_header : Refusal → Bool
for_header r = choose (eqb (number r) 4) true (eqb (number r) 5)

-- the input of a push that was accepted or refused for a header; a push that was turned away before the append received nothing
unfoldable pub received : Pushed → List ℕ → List ℕ
received (Accepted frames bytes held) x = x
received (Refused refusal held) x = choose (for_header refusal) x []

unfoldable pub received_all : List Event → List ℕ
received_all [] = []
received_all (e ∷ es) = received e.answer e.input ++ received_all es

-- ---- frames delivered

-- fs are the frames that a push delivered: as many as it answered, and their encodings fill the answered length at the output's front; a refused push delivers none
unfoldable pub Delivers : NetworkMagic → Pushed → List ℕ → List Frame → Type 0
Delivers net (Accepted frames bytes held) o fs = (length fs ≡ frames) × (encodings net fs ≡ take bytes o) × (bytes ≤ length o)
Delivers net (Refused refusal held) o fs = fs ≡ []

pub data DeliversAll (net : NetworkMagic) : List Event → List Frame → Type 0 where
  none : DeliversAll net [] []
  more : {e : Event} {es : List Event} (fs gs : List Frame) → Delivers net e.answer e.output fs → DeliversAll net es gs → DeliversAll net (e ∷ es) (fs ++ gs)

-- ---- the demand's other words

-- a complete frame at the front of bytes: a good header, and all of its payload
pub record BeginsWithFrame (net : NetworkMagic) (xs : List ℕ) : Type 0 where
  pub header : header_size ≤ length xs
  pub magic_good : take 4 xs ≡ magic net
  pub length_good : payload_length xs ≤ max_payload
  pub payload_there : header_size + payload_length xs ≤ length xs

unfoldable pub HeaderRefused : Pushed → Type 0
HeaderRefused (Accepted frames bytes held) = ⊥
HeaderRefused (Refused refusal held) = T (for_header refusal)

-- some push of the list was refused for a header
unfoldable pub AnyHeaderRefused : List Event → Type 0
AnyHeaderRefused [] = ⊥
AnyHeaderRefused (e ∷ es) = HeaderRefused e.answer ⊎ AnyHeaderRefused es

-- accepted, or refused by 4 or 5: so by none of 6, 16, 17 and 18
unfoldable pub NotTurnedAway : Pushed → Type 0
NotTurnedAway (Accepted frames bytes held) = Unit {0}
NotTurnedAway (Refused refusal held) = T (for_header refusal)

-- ---- the demand

-- the pushes es of P on a stream whose store was s at first
pub record Demand3 (P : AnyPush) (net : NetworkMagic) (s : List ℕ) (es : List Event) : Type 0 where
  -- the outputs hold frames as the answers say, and one list of them only
  pub frames_delivered : (fs : List Frame) × DeliversAll net es fs
  pub one_list : (fs gs : List Frame) → DeliversAll net es fs → DeliversAll net es gs → fs ≡ gs
  -- all bytes received are the encodings of the frames delivered, in order, then the held bytes
  pub all_bytes : (fs : List Frame) → DeliversAll net es fs → received_all es ≡ encodings net fs ++ held_after s es
  -- as long as no header in it was refused
  pub no_frame_held : ¬ AnyHeaderRefused es → ¬ BeginsWithFrame net (held_after s es)
  pub few_held : ¬ AnyHeaderRefused es → length (held_after s es) ≤ most_held
  pub next_taken : ¬ AnyHeaderRefused es → (x o : List ℕ) → length x ≤ next_input → max_stream ≤ length s → max_stream ≤ length o
      → NotTurnedAway (P net (store_after s es) (count_after 0 es) x o).answer
  -- once a push of it was refused for a header, no later one delivers a frame
  pub then_none : (before later : List Event) → es ≡ before ++ later → AnyHeaderRefused before → (fs : List Frame) → DeliversAll net later fs → fs ≡ []

-- of every network, every store of any length, and every list of calls whose inputs are bytes, from held count 0
abbrev pub Demand3For : AnyPush → Type 0
Demand3For P =
    (net : NetworkMagic) (s : List ℕ) (cs : List Call) → All (λ c. Bytes c.input) cs → Demand3 P net s (events P net s 0 cs)

-- The theorem, `demand_3` of proofs/Demand3.antt.
abbrev pub Demand3Holds : Type 0
Demand3Holds = Demand3For push

-- And besides, `stream_kept` of proofs/Demand3.antt: frames delivered are frames that the writer accepts, the store keeps its length, and it has as many bytes as the held count says.
pub record Kept (net : NetworkMagic) (s : List ℕ) (es : List Event) : Type 0 where
  pub well_formed : (fs : List Frame) → DeliversAll net es fs → All WellFormed fs
  pub same_length : length (store_after s es) ≡ length s
  pub held_there : count_after 0 es ≤ length (store_after s es)

abbrev pub StreamKept : Type 0
StreamKept = (net : NetworkMagic) (s : List ℕ) (cs : List Call) → All (λ c. Bytes c.input) cs → Kept net s (events push net s 0 cs)

-- The demand's numbers are sharp, `sharp` of proofs/Sharp.antt: on every network one push of some bytes, none of them refused, leaves 8,000,008 held, and then one byte more of input, or one less of store or output, is turned away by 6, 17 or 16.
pub record Sharp (net : NetworkMagic) : Type 0 where
  pub input : List ℕ
  pub bytes : Bytes input
  pub held : (s o : List ℕ) → most_held ≤ length s → most_held ≤ length o → let es = events push net s 0 (record { input = input; output = o } ∷ []) in (¬ AnyHeaderRefused es) × (count_after 0 es ≡ most_held)
  pub more_input : (s x o : List ℕ) → max_stream ≤ length s → length x ≡ next_input + 1 → (push net s most_held x o).answer ≡ Refused (stream_too_large (max_stream + 1)) most_held
  pub less_store : (s x o : List ℕ) → length s ≡ max_stream - 1 → length x ≡ next_input → (push net s most_held x o).answer ≡ Refused (store_short max_stream) most_held
  pub less_output : (s x o : List ℕ) → max_stream ≤ length s → length x ≡ next_input → length o ≡ max_stream - 1 → (push net s most_held x o).answer ≡ Refused (output_short max_stream) most_held
