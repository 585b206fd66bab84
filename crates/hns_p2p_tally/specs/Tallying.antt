-- Document 02, T-01: one tallying push, from what it is given to its answer and what store, output and tally hold after it.
use Rattle.std.specs.Prelude.{ℕ, ◌+◌, List, length, take, leb}
use Rattle.hns_refusals.specs.declared.Refusal.{Refusal}
use Rattle.hns_refusals.specs.Refusals.{output_short, tally_full}
use Rattle.hns_encoding.specs.Bytes.{choose}
use Rattle.hns_p2p_frame.specs.declared.NetworkMagic.{NetworkMagic}
use Rattle.hns_p2p_frame.specs.Delivered.{Delivered, Refused}
use Rattle.hns_p2p_frame.specs.Walk.{cut}
use Rattle.hns_p2p_frame.specs.Push as ported
use Rattle.hns_p2p_frame.specs.Push.{passing, delivered}
use Rattle.hns_p2p_stream.specs.Runs.{told}
use Rattle.hns_p2p_tally.specs.Tally.{tally_size, recount, roomy}

pub record Result : Type 0 where
  pub answer : Delivered
  pub store : List ℕ
  pub output : List ℕ
  pub tally : List ℕ

-- The tests before the append: those of the push, 18, 6, 17, 16; then 16 for a tally that is too short, a the numbers needed; then 20, where a total of the tally, plus held and input, would pass 2^63 - 1.
unfoldable pub passing_all : {A : Type 0} → List ℕ → ℕ → List ℕ → List ℕ → List ℕ → (Refusal → A) → A → A
passing_all s h x o t away p =
    passing s h x o away
    (choose (leb tally_size (length t))
    (choose (roomy t (h + length x))
    p
    (away tally_full))
    (away (output_short tally_size)))

-- turned away: nothing is delivered, the held count is the one given, and no byte and no number changes
abbrev pub turned_away : Refusal → List ℕ → ℕ → List ℕ → List ℕ → Result
turned_away r s h o t = record { answer = Refused r 0 0 h; store = s; output = o; tally = t }

-- what a push leaves that answered a, with its frames counted: those whose encodings fill the answered length at the output's front
abbrev pub counted : NetworkMagic → List ℕ → Delivered → List ℕ → List ℕ → Result
counted net t a s o = record { answer = a; store = s; output = o; tally = recount t (cut net (take (told a).bytes o)).frames }

-- a push by the ported one
unfoldable pub push_tallying : NetworkMagic → List ℕ → ℕ → List ℕ → List ℕ → List ℕ → Result
push_tallying net s h x o t =
    let p = ported.push net s h x o in
    passing_all s h x o t (λ r. turned_away r s h o t) (counted net t (delivered p.answer) p.store p.output)
