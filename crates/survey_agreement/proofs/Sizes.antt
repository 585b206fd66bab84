-- How long things are: what a chunk adds to the text, and the output after it. Assumes nothing.
use Prim.Native.Nat.{ℕ, zero, suc, ◌+◌, ◌*◌, ◌≤◌, ◌/◌}
use mathlib.Core.Path.{◌≡◌, refl, ap, ◌∙◌}
use mathlib.Core.List.{List, [], ◌∷◌, ◌++◌, append_assoc}
use native.Mathlib.Omega.{arith}
use lib.ListN.{length, take, length-append, length-take, length-drop}
use lib.Dec.{leb, ltb, eqb}
use Rattle.hns_encoding.specs.Bytes.{le_bytes}
use Rattle.hns_encoding.specs.Put.{splice}
use Rattle.hns_encoding.proofs.Outcomes.{choose_holds, choose_leb}
use Rattle.hns_encoding.proofs.Puts.{length_splice}
use Rattle.hns_p2p_frame.specs.declared.NetworkMagic.TheVariants.{Mainnet}
use Rattle.hns_refusals.specs.Refusals.{number}
use Rattle.hns_p2p_frame.specs.Pushed.{Pushed, Accepted, Refused}
use Rattle.hns_p2p_frame.specs.Frame.{Frame, encodings}
use Rattle.hns_p2p_frame.specs.Walk.{Walked, stopped, refused, cut, walk}
use Rattle.hns_p2p_frame.specs.Push.{Result, settled, push}
use Rattle.hns_p2p_frame.proofs.Fronts.{front_rest}
use Rattle.hns_p2p_frame.proofs.Walks.{by_front, cut_open, cut_bad, cut_frame}
use Rattle.hns_p2p_frame.proofs.Tests.{PushTested, over, large, unstored, no_room, fits, tested}
use Rattle.survey_digits.specs.Digits.{hex, decimal_up_to, decimal}
use Rattle.survey_export.specs.Text.{line, last_line, held_line, stop_line}
use Rattle.survey_export.specs.Survey.{chunk_size, lines, Last, held, stop, last_text, Added, goes_on, ends, added_text, delivered, added_by, Chunk, chunk}
use Rattle.survey_agreement.proofs.Determined.{payload_length}

pub lines_append : (fs gs : List Frame) → lines (fs ++ gs) ≡ lines fs ++ lines gs
unfolding lines
lines_append [] gs = refl
lines_append (f ∷ fs) gs = rw (lines_append fs gs, append_assoc)

-- a line is at most twice as long as the encoding of its frame
line_fits : (k : ℕ) (p : List ℕ) → length (line k p) ≤ 2 * (9 + length p)
unfolding line hex le_bytes
line_fits k p = simp (length-append, payload_length) (omega arith)

-- so the lines of the frames that bytes begin with are at most twice as long as these
lines_fit : (xs : List ℕ) → length (lines (cut Mainnet xs).frames) ≤ 2 * length xs
unfolding lines
lines_fit =
    by_front Mainnet (λ (xs : List ℕ). length (lines (cut Mainnet xs).frames) ≤ 2 * length xs)
    (λ xs e. rw (cut_open Mainnet xs e) (omega arith))
    (λ xs r e. rw (cut_bad Mainnet xs r e) (omega arith))
    (λ xs f rest e ih. let p = front_rest Mainnet xs f rest e in
    rw (cut_frame Mainnet xs f rest e, length-append)
    (omega (arith, line_fits f.packet_type f.payload, p.1, ap length p.0 ∙ length-drop (9 + length f.payload) xs)))

digits : (k n : ℕ) → length (decimal_up_to k n) ≤ k
unfolding decimal_up_to
digits zero n = omega arith
digits (suc k) n = choose_holds (λ (x : List ℕ). length x ≤ suc k) (ltb n 10) (λ e. omega arith) (λ e. simp length-append (omega (arith, digits k (n / 10))))

last_fits : (l : Last) → length (last_text l) ≤ 26
unfolding last_text held_line stop_line last_line decimal
last_fits (held n) = simp length-append (omega (arith, digits 20 n))
last_fits (stop r) = simp length-append (omega (arith, digits 20 r))

-- ---- a push

settled_output : (w : Walked) (s : List ℕ) (h : ℕ) (o : List ℕ) → length (settled Mainnet w s h o).output ≡ length o
unfolding settled
settled_output (stopped fs rest) s h o = length_splice o 0 (encodings Mainnet fs)
settled_output (refused r) s h o = refl

pub push_output : (s : List ℕ) (h : ℕ) (x o : List ℕ) → length (push Mainnet s h x o).output ≡ length o
push_output s h x o = go (tested Mainnet s h x o)
  where
    go : {p : Result} → PushTested Mainnet s h x o p → length p.output ≡ length o
    go (over a) = refl
    go (large a b) = refl
    go (unstored a b c) = refl
    go (no_room a b c d) = refl
    go (fits a b c d) = settled_output (walk Mainnet (take h s ++ x)) (splice s h x) (h + length x) o

-- ---- a chunk

-- what a chunk adds fits beside the text that is kept, and its output is as long as before
pub record Sized (n : ℕ) (c : Chunk) : Type 0 where
  pub text : length (added_text c.added) ≤ 2 * n + 26
  pub output : length c.output ≡ n

delivered_fits : (b : ℕ) (o : List ℕ) → length (lines (delivered b o)) ≤ 2 * length o
delivered_fits b o = omega (arith, lines_fit (take b o), length-take b o)

added_fits : (n : ℕ) (a : Pushed) (o : List ℕ) → length (added_text (added_by n a o)) ≤ 2 * length o + 26
unfolding added_by added_text lines
added_fits n (Refused r h) o = omega (arith, last_fits (stop (number r)))
added_fits n (Accepted f b h) o =
    choose_holds (λ (d : Added). length (added_text d) ≤ 2 * length o + 26) (leb chunk_size n)
    (λ e. omega (arith, delivered_fits b o))
    (λ e. simp length-append (omega (arith, delivered_fits b o, last_fits (held h))))

pub chunk_sized : (s : List ℕ) (h : ℕ) (x o : List ℕ) → Sized (length o) (chunk s h x o)
unfolding chunk added_text lines
chunk_sized s h x o =
    choose_holds (Sized (length o)) (eqb (length x) 0)
    (λ e. record { text = omega (arith, last_fits (held h)); output = refl })
    (λ e. record { text = omega (arith, added_fits (length x) (push Mainnet s h x o).answer (push Mainnet s h x o).output, push_output s h x o); output = push_output s h x o })

-- a survey goes on after full chunks alone
abbrev pub Full : ℕ → Added → Type 0
Full n (goes_on fs h) = chunk_size ≤ n
Full n (ends fs l) = Unit {0}

added_full : (n : ℕ) (a : Pushed) (o : List ℕ) → Full n (added_by n a o)
unfolding added_by
added_full n (Refused r h) o = tt
added_full n (Accepted f b h) o = choose_leb (Full n) chunk_size n (λ e. e) (λ e. tt)

pub chunk_full : (s : List ℕ) (h : ℕ) (x o : List ℕ) → Full (length x) (chunk s h x o).added
unfolding chunk
chunk_full s h x o =
    choose_holds (λ (c : Chunk). Full (length x) c.added) (eqb (length x) 0)
    (λ e. tt)
    (λ e. added_full (length x) (push Mainnet s h x o).answer (push Mainnet s h x o).output)
