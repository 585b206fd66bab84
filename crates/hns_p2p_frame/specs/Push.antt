-- Document 01, 'The stream': one push, from what it is given to its answer and what store and output hold after it.
use Rattle.std.specs.Prelude.{ℕ, ◌+◌, ◌-◌, ◌^◌, min, List, ◌++◌, length, take, leb}
use Rattle.hns_refusals.specs.declared.Refusal.{Refusal}
use Rattle.hns_refusals.specs.Limits.{max_stream}
use Rattle.hns_refusals.specs.Refusals.{stream_too_large, output_short, store_short, held_over}
use Rattle.hns_encoding.specs.Bytes.{choose}
use Rattle.hns_encoding.specs.Put.{splice}
use Rattle.hns_p2p_frame.specs.declared.NetworkMagic.{NetworkMagic}
use Rattle.hns_p2p_frame.specs.Pushed.{Pushed, Accepted, Refused}
use Rattle.hns_p2p_frame.specs.Delivered.{Delivered}
use Rattle.hns_p2p_frame.specs.Delivered as D
use Rattle.hns_p2p_frame.specs.Frame.{encodings}
use Rattle.hns_p2p_frame.specs.Walk.{Walked, stopped, refused, walk}

pub record Result : Type 0 where
  pub answer : Pushed
  pub store : List ℕ
  pub output : List ℕ

-- value a of 6, 17 and 16: held and input together, at most 2^64 - 1
abbrev pub needed : ℕ → List ℕ → ℕ
needed h x = min (h + length x) (2 ^ 64 - 1)

-- refused before the append: the held count is the one given, and no byte changes
abbrev pub turned_away : Refusal → List ℕ → ℕ → List ℕ → Result
turned_away r s h o = record { answer = Refused r h; store = s; output = o }

-- Once the input is appended; s is the store with it, and h counts it. `splice s 0 x` is s with x at its front.
-- Accepted: the encodings go to the output's front and the bytes after them to the store's; the answer has the frames' number, their length and how many bytes are held.
-- A bad header: its refusal (4 or 5). What was appended stays and is held, and no frame is delivered, not even those before the header.
unfoldable pub settled : NetworkMagic → Walked → List ℕ → ℕ → List ℕ → Result
settled net (stopped fs rest) s h o =
    record {
      answer = Accepted (length fs) (length (encodings net fs)) (length rest);
      store = splice s 0 rest;
      output = splice o 0 (encodings net fs);
    }
settled net (refused r) s h o = record { answer = Refused r h; store = s; output = o }

-- the tests before the append, in their order 18, 6, 17, 16: `away` of the first that refuses, or p if none does
unfoldable pub passing : {A : Type 0} → List ℕ → ℕ → List ℕ → List ℕ → (Refusal → A) → A → A
passing s h x o away p =
    choose (leb h (length s))
    (choose (leb (h + length x) max_stream)
    (choose (leb (h + length x) (length s))
    (choose (leb (h + length x) (length o))
    p
    (away (output_short (needed h x))))
    (away (store_short (needed h x))))
    (away (stream_too_large (needed h x))))
    (away (held_over h))

-- the result of a push, p where no test turns it away
unfoldable pub admitted : List ℕ → ℕ → List ℕ → List ℕ → Result → Result
admitted s h x o p = passing s h x o (λ r. turned_away r s h o) p

-- A push of the input x, with the output o, to a stream whose store is s and whose held count is h: held bytes and input are walked together.
unfoldable pub push : NetworkMagic → List ℕ → ℕ → List ℕ → List ℕ → Result
push net s h x o =
    admitted s h x o (settled net (walk net (take h s ++ x)) (splice s h x) (h + length x) o)

-- the ported push's answer with what it delivered: nothing where it is refused
unfoldable pub delivered : Pushed → Delivered
delivered (Accepted frames bytes held) = D.Accepted frames bytes held
delivered (Refused refusal held) = D.Refused refusal 0 0 held
