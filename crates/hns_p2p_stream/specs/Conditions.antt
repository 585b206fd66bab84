-- Document 01's table as conditions, both ways, of the push: each answer, with its values and with what store and output then hold, is given exactly when its case holds.
use Rattle.std.specs.Prelude.{ℕ, ◌+◌, ◌≤◌, ◌<◌, ◌≡◌, List, ◌++◌, ◌⊎◌, length, take, drop}
use Rattle.hns_refusals.specs.declared.Refusal.{Refusal}
use Rattle.hns_refusals.specs.Limits.{max_stream}
use Rattle.hns_refusals.specs.Refusals.{number, stream_too_large, output_short, store_short, held_over}
use Rattle.hns_encoding.specs.Bytes.{Bytes}
use Rattle.hns_encoding.specs.Format.{All}
use Rattle.hns_encoding.specs.Put.{splice}
use Rattle.hns_p2p_frame.specs.declared.NetworkMagic.{NetworkMagic}
use Rattle.hns_p2p_frame.specs.Pushed.{Accepted, Refused}
use Rattle.hns_p2p_frame.specs.Frame.{Frame, WellFormed, encodings, not_yet, bad}
use Rattle.hns_p2p_frame.specs.Push.{Result, needed, turned_away, push}
use Rattle.hns_p2p_frame.specs.Conditions.{◌⇔◌, FrontIs}

-- the held count is within the store, and held and input together are within the stream's limit, the store and the output
pub record Fits (s : List ℕ) (h : ℕ) (x o : List ℕ) : Type 0 where
  pub held : h ≤ length s
  pub stream : h + length x ≤ max_stream
  pub store : h + length x ≤ length s
  pub output : h + length x ≤ length o

-- held bytes and input are the encodings of frames, and then a rest
pub record Cuts (net : NetworkMagic) (s : List ℕ) (h : ℕ) (x : List ℕ) (fs : List Frame) (rest : List ℕ) : Type 0 where
  pub all : take h s ++ x ≡ encodings net fs ++ rest
  pub well_formed : All WellFormed fs

pub data PushIs (net : NetworkMagic) (s : List ℕ) (h : ℕ) (x o : List ℕ) : Result → Type 0 where
  -- 18, 6, 17, 16 in this order: `turned_away` leaves held count, store and output as they were
  if_held_over : length s < h → PushIs net s h x o (turned_away (held_over h) s h o)
  stream_over : h ≤ length s → max_stream < h + length x → PushIs net s h x o (turned_away (stream_too_large (needed h x)) s h o)
  if_store_short : h ≤ length s → h + length x ≤ max_stream → length s < h + length x → PushIs net s h x o (turned_away (store_short (needed h x)) s h o)
  if_output_short : h ≤ length s → h + length x ≤ max_stream → h + length x ≤ length s → length o < h + length x → PushIs net s h x o (turned_away (output_short (needed h x)) s h o)
  -- 4 and 5: after whole frames the rest begins with a bad header; the input stands at the held count and is held, and nothing else is written
  if_bad_header : Fits s h x o → (fs : List Frame) (rest : List ℕ) (r : Refusal) → Cuts net s h x fs rest → FrontIs net rest (bad r)
      → PushIs net s h x o (record { answer = Refused r (h + length x); store = take h s ++ (x ++ drop (h + length x) s); output = o })
  -- accepted: the rest after the whole frames is not yet a frame
  accepted : Fits s h x o → (fs : List Frame) (rest : List ℕ) → Cuts net s h x fs rest → FrontIs net rest not_yet
      → PushIs net s h x o (record { answer = Accepted (length fs) (length (encodings net fs)) (length rest); store = splice (splice s h x) 0 rest; output = splice o 0 (encodings net fs) })

-- `push_exactly` of proofs/Conditions.antt
abbrev pub PushExactly : Type 0
PushExactly =
    (net : NetworkMagic) (s : List ℕ) (h : ℕ) (x o : List ℕ) → Bytes (take h s) → Bytes x → (p : Result) → (push net s h x o ≡ p) ⇔ PushIs net s h x o p

-- ---- demand 1 of the push: which refusals it can give, and what each leaves

-- refused before the append: nothing is written
pub record Untouched (s : List ℕ) (h : ℕ) (o : List ℕ) (r : Refusal) (k : ℕ) (p : Result) : Type 0 where
  pub number : (number r ≡ 6) ⊎ (number r ≡ 16) ⊎ (number r ≡ 17) ⊎ (number r ≡ 18)
  pub store : p.store ≡ s
  pub output : p.output ≡ o
  pub held : k ≡ h

-- refused for a header: the input was added to the store, and nothing else is written
pub record Appended (s : List ℕ) (h : ℕ) (x o : List ℕ) (r : Refusal) (k : ℕ) (p : Result) : Type 0 where
  pub number : (number r ≡ 4) ⊎ (number r ≡ 5)
  pub store : p.store ≡ take h s ++ (x ++ drop (h + length x) s)
  pub output : p.output ≡ o
  pub held : k ≡ h + length x

-- `push_refusals` of proofs/Conditions.antt
abbrev pub PushRefusals : Type 0
PushRefusals =
    (net : NetworkMagic) (s : List ℕ) (h : ℕ) (x o : List ℕ) → Bytes (take h s) → Bytes x → (r : Refusal) (k : ℕ) → (push net s h x o).answer ≡ Refused r k
    → Untouched s h o r k (push net s h x o) ⊎ Appended s h x o r k (push net s h x o)
