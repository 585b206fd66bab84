-- Document 01, 'A reviewer's trials' and its slips on streams: wrong pushes, each of which demand 3 refuses. Each makes the ported push's tests before the append, and is wrong after it.
use Rattle.std.specs.Prelude.{ℕ, ◌+◌, List, [], ◌∷◌, ◌++◌, length, take}
use Rattle.hns_refusals.specs.declared.Refusal.{Refusal}
use Rattle.hns_encoding.specs.Put.{splice}
use Rattle.hns_p2p_frame.specs.declared.NetworkMagic.{NetworkMagic}
use Rattle.hns_p2p_frame.specs.Pushed.{Pushed, Accepted, Refused}
use Rattle.hns_p2p_frame.specs.Frame.{encodings, Front, not_yet, whole, bad, front}
use Rattle.hns_p2p_frame.specs.Walk.{Why, unfinished, bad_header, cut, Walked, stopped, refused, walk}
use Rattle.hns_p2p_frame.specs.Push.{Result, settled, admitted, push}
use Rattle.hns_p2p_stream.specs.Stream.{AnyPush, Demand3For}

-- the push with another walk
unfoldable pub walking : (NetworkMagic → List ℕ → Walked) → AnyPush
walking w net s h x o = admitted s h x o (settled net (w net (take h s ++ x)) (splice s h x) (h + length x) o)

-- trial 1: the first frame only
unfoldable pub first_of : List ℕ → Front → Walked
first_of xs not_yet = stopped [] xs
first_of xs (whole f rest) = stopped (f ∷ []) rest
first_of xs (bad r) = refused r

abbrev pub hands_out_first : AnyPush
hands_out_first = walking (λ net xs. first_of xs (front net xs))

-- trial 1: no frame at all
abbrev pub hands_out_none : AnyPush
hands_out_none = walking (λ net xs. stopped [] xs)

-- trial 2: accepted, and nothing stored
unfoldable pub stores_nothing : AnyPush
stores_nothing net s h x o = admitted s h x o (record { answer = Accepted 0 0 h; store = s; output = o })

-- trial 3: the ported push, with a count of one frame more than the output has
unfoldable pub one_more : Result → Pushed → Result
one_more p (Accepted n b k) = record { answer = Accepted (n + 1) b k; store = p.store; output = p.output }
one_more p (Refused r k) = p

unfoldable pub miscounts : AnyPush
miscounts net s h x o = one_more (push net s h x o) (push net s h x o).answer

-- the ported push, with another result where a bad header stands after frames: of the bytes xs, the store s with the input in it, how many bytes h that are, the output, and the refusal
unfoldable pub by_why : Why → Result → (Refusal → Result) → Result
by_why unfinished p q = p
by_why (bad_header r) p q = q r

unfoldable pub at_bad_header : (NetworkMagic → List ℕ → List ℕ → ℕ → List ℕ → Refusal → Result) → AnyPush
at_bad_header q net s h x o =
    admitted s h x o (by_why (cut net (take h s ++ x)).why (settled net (walk net (take h s ++ x)) (splice s h x) (h + length x) o) (q net (take h s ++ x) (splice s h x) (h + length x) o))

-- slip: the good frames before it are handed out, and what is held is only what follows them
abbrev pub hands_out_before : AnyPush
hands_out_before = at_bad_header (λ net xs s h o r. settled net (stopped (cut net xs).frames (cut net xs).rest) s h o)

-- slip: they are handed out, and the held count is as if they were not
abbrev pub hands_out_and_holds : AnyPush
hands_out_and_holds =
    at_bad_header (λ net xs s h o r. let fs = (cut net xs).frames in record { answer = Accepted (length fs) (length (encodings net fs)) h; store = s; output = splice o 0 (encodings net fs) })

-- slip: the push is refused, and they are gone
abbrev pub drains : AnyPush
drains = at_bad_header (λ net xs s h o r. record { answer = Refused r (length (cut net xs).rest); store = splice s 0 (cut net xs).rest; output = o })

-- slip: the push is refused, and all that was held is gone
abbrev pub forgets : AnyPush
forgets = at_bad_header (λ net xs s h o r. record { answer = Refused r 0; store = s; output = o })

-- slip: a refused header stays, but a later push hands out the good frames before it
unfoldable pub delivers_later : AnyPush
delivers_later net s h x o =
    admitted s h x o (by_why (cut net (take h s)).why (settled net (walk net (take h s ++ x)) (splice s h x) (h + length x) o) (λ r. settled net (stopped (cut net (take h s ++ x)).frames (cut net (take h s ++ x)).rest) (splice s h x) (h + length x) o))

-- The theorem, `trials` of proofs/Trials.antt: demand 3 holds of none of them.
pub record TrialsFail : Type 0 where
  pub first_frame_only : ¬ Demand3For hands_out_first
  pub none_handed_out : ¬ Demand3For hands_out_none
  pub nothing_stored : ¬ Demand3For stores_nothing
  pub count_wrong : ¬ Demand3For miscounts
  pub handed_out_before : ¬ Demand3For hands_out_before
  pub handed_out_and_held : ¬ Demand3For hands_out_and_holds
  pub drained : ¬ Demand3For drains
  pub forgotten : ¬ Demand3For forgets
  pub delivered_later : ¬ Demand3For delivers_later
