-- Wrong tallying pushes, each refuted by one or two pushes on mainnet. Assumes nothing.
use Prim.Native.Nat.{ℕ, ◌+◌, ◌<◌}
use mathlib.Core.Path.{◌≡◌, refl, ap, ◌∙◌}
use mathlib.Core.List.{List, [], ◌∷◌, ◌++◌}
use native.Mathlib.Omega.{arith}
use lib.ListN.{length, get_or, set, replicate}
use lib.Dec.{T}
use Rattle.hns_encoding.specs.Bytes.{le, le_bytes, none}
use Rattle.hns_encoding.specs.Put.{splice, advance}
use Rattle.hns_p2p_frame.specs.declared.NetworkMagic.TheVariants.{Mainnet}
use Rattle.hns_p2p_frame.specs.Frame.{magic, Frame, encoding, encodings, same, payload_length, front}
use Rattle.hns_p2p_frame.specs.Walk.{onwards, cut_up_to, cut, walked_for, walk}
use Rattle.hns_p2p_frame.specs.Push.{settled, passing, admitted, push, delivered}
use Rattle.hns_p2p_stream.specs.Stream.{for_header}
use Rattle.hns_p2p_stream.specs.Runs as lists
use Rattle.hns_p2p_stream.specs.Runs.{told, Stream, after, PushOn, Call, taking, Hands, Total, Run, more}
use Rattle.hns_p2p_stream.proofs.Encodings.{encodings_one}
use Rattle.hns_p2p_stream.proofs.Inputs.{are_bytes, bytes_tested}
use Rattle.hns_p2p_tally.specs.Tally.{tally_size, byte_total, add_at, at_type, with_frame, recount, roomy, frames_of, sum}
use Rattle.hns_p2p_tally.specs.Tallying.{Result, passing_all, push_tallying}
use Rattle.hns_p2p_totals.specs.Conditions.{AnyTallying, TallyingExactlyFor}
use Rattle.hns_p2p_totals.specs.Totals.{Summed, begun, NotTurnedAway, TallyHolds, TallyFor}
use Rattle.hns_p2p_totals.specs.Trials.{tallying_by, counting, counts_none, counts_payloads, counts_twice, forgets_totals, next_type, counts_before, begins_anew, refuses_all, stores_at_full, TallyTrials, hands_out_none, answers_four, writes_at_full, never_full, AnswerTrials}
use Rattle.hns_p2p_totals.proofs.Totals.{zeros_summed}
use Rattle.hns_p2p_totals.proofs.Conditions.{tallying_exactly}

abbrev room : List ℕ
room = replicate 32 0

abbrev zeros : List ℕ
zeros = replicate tally_size 0

-- a frame of type 1 with no payload, and nine bytes that are no header
abbrev verack : Frame
verack = record { packet_type = 1; payload = [] }

abbrev input : List ℕ
input = encoding Mainnet verack

abbrev bad : List ℕ
bad = input ++ replicate 9 0

abbrev call : PushOn (List ℕ) → List ℕ → Call (List ℕ)
call P x = record { push = P; input = x; output = room }

-- what the claim says of one push of x to a stream with the tally t
record One (P : PushOn (List ℕ)) (t x : List ℕ) : Type 0 where
  fs : List Frame
  hands : Hands Mainnet (P Mainnet (begun room t) x room).answer (P Mainnet (begun room t) x room).output fs
  frames : (k : ℕ) → k < 256 → get_or (P Mainnet (begun room t) x room).also k 0 ≡ get_or t k 0 + frames_of k (fs ++ [])
  byte_total_is : get_or (P Mainnet (begun room t) x room).also byte_total 0 + (P Mainnet (begun room t) x room).answer.held
      ≡ get_or t byte_total 0 + length (taking (P Mainnet (begun room t) x room).answer.verdict x ++ [])

one : (P : PushOn (List ℕ)) → TallyFor P → (t x : List ℕ) → Summed t → T (are_bytes x) → One P t x
one P d t x s b = go h.list.runs.2
  where
    h : TallyHolds P Mainnet (begun room t) (call P x ∷ [])
    h = d Mainnet room t s (call P x ∷ []) ((refl, bytes_tested x b), tt)

    go : {w : Total} {z : Stream (List ℕ)} → Run Mainnet (begun room t) (call P x ∷ []) w z → One P t x
    go (more fs i lists.none) =
        let r = h.tally (more {c = call P x} fs i lists.none) in
        record { fs = fs; hands = i; frames = r.frames; byte_total_is = r.byte_total_is }

-- of two pushes of the verack to an empty stream with zeros: the byte total and the held bytes are the bytes received
two : (P : PushOn (List ℕ)) → TallyFor P → T (are_bytes input)
    → (let p = P Mainnet (begun room zeros) input room in let q = P Mainnet (after p) input room in
    get_or q.also byte_total 0 + q.answer.held ≡ get_or zeros byte_total 0 + length (taking p.answer.verdict input ++ (taking q.answer.verdict input ++ [])))
two P d b = go h.list.runs.2
  where
    h : TallyHolds P Mainnet (begun room zeros) (call P input ∷ call P input ∷ [])
    h = d Mainnet room zeros (zeros_summed tally_size) (call P input ∷ call P input ∷ []) ((refl, bytes_tested input b), ((refl, bytes_tested input b), tt))

    go : {w : Total} {z : Stream (List ℕ)} → Run Mainnet (begun room zeros) (call P input ∷ call P input ∷ []) w z
        → (let p = P Mainnet (begun room zeros) input room in let q = P Mainnet (after p) input room in
        get_or q.also byte_total 0 + q.answer.held ≡ get_or zeros byte_total 0 + length (taking p.answer.verdict input ++ (taking q.answer.verdict input ++ [])))
    go (more fs i (more gs j lists.none)) = (h.tally (more {c = call P input} fs i (more {c = call P input} gs j lists.none))).byte_total_is

-- a tally whose byte total can't grow: 2^63 - 1 bytes of type 0
full : List ℕ
full = set (set zeros 256 9223372036854775807) byte_total 9223372036854775807

full_summed : Summed full
unfolding full sum
full_summed = record { frames = refl; bytes = refl }

pub tally_trials : TallyTrials
unfolding le le_bytes splice advance magic encoding encodings same payload_length front onwards cut_up_to cut walked_for walk settled passing admitted push delivered for_header told taking add_at at_type with_frame recount roomy frames_of sum passing_all push_tallying counting tallying_by refuses_all stores_at_full full NotTurnedAway
tally_trials =
    let s = zeros_summed tally_size in
    record {
      -- 9 bytes received, none counted or held
      nothing_counted = λ d. let e : ◌≡◌ {A = ℕ} 0 9 = (one counts_none d zeros input s tt).byte_total_is in omega arith;
      payloads_counted = λ d. let e : ◌≡◌ {A = ℕ} 0 9 = (one counts_payloads d zeros input s tt).byte_total_is in omega arith;
      -- 18 counted
      counted_twice = λ d. let e : ◌≡◌ {A = ℕ} 18 9 = (one counts_twice d zeros input s tt).byte_total_is in omega arith;
      totals_forgotten = λ d. let e : ◌≡◌ {A = ℕ} 0 9 = (one forgets_totals d zeros input s tt).byte_total_is in omega arith;
      -- one of type 1 delivered, none counted
      another_type = λ d.
          let q = one next_type d zeros input s tt in
          let same : q.fs ≡ verack ∷ [] = encodings_one Mainnet q.fs (verack ∷ []) (omega (arith, ap length q.hands.1)) q.hands.0 q.hands.1 in
          let e : ◌≡◌ {A = ℕ} 0 (0 + frames_of 1 (q.fs ++ [])) = q.frames 1 (omega arith) in
          let f : ◌≡◌ {A = ℕ} 0 1 = e ∙ ap (λ (l : List Frame). 0 + frames_of 1 (l ++ [])) same in
          omega arith;
      -- 18 bytes held, and 9 of them counted
      counted_before = λ d. let e : ◌≡◌ {A = ℕ} 27 18 = (one counts_before d zeros bad s tt).byte_total_is in omega arith;
      -- of 18 bytes received the last 9 are counted
      begun_anew = λ d. let e : ◌≡◌ {A = ℕ} 9 18 = two begins_anew d tt in omega arith;
      -- an empty push fits
      all_refused = λ d.
          (d Mainnet room zeros s [] tt).next_taken lists.none [] room (record { held = omega arith; stream = omega arith; store = omega arith; output = omega arith }) (record { size = omega arith; frames = omega arith; bytes = omega arith });
      -- 9 bytes are held that were not received
      stored_at_full = λ d. let e : ◌≡◌ {A = ℕ} 9223372036854775816 9223372036854775807 = (one stores_at_full d full input full_summed tt).byte_total_is in omega arith;
    }

-- ---- wrong in one answer

-- what the conditions say of any push: it is the tallying push
is_tallying : (P : AnyTallying) → TallyingExactlyFor P → (t x : List ℕ) → T (are_bytes x) → push_tallying Mainnet room 0 x room t ≡ P Mainnet room 0 x room t
is_tallying P d t x b =
    let y = bytes_tested x b in
    (tallying_exactly Mainnet room 0 x room t none y (P Mainnet room 0 x room t)).1 ((d Mainnet room 0 x room t none y (P Mainnet room 0 x room t)).0 refl)

pub answer_trials : AnswerTrials
unfolding le le_bytes splice advance magic encoding encodings same payload_length front onwards cut_up_to cut walked_for walk settled passing admitted push delivered told add_at at_type with_frame recount roomy passing_all push_tallying full never_full
answer_trials =
    record {
      -- 9 bytes are counted
      none_handed_out = λ d. let e : ◌≡◌ {A = ℕ} 9 0 = ap (λ (p : Result). get_or p.tally byte_total 0) (is_tallying hands_out_none d zeros input tt) in omega arith;
      four_answered = λ d. let e : ◌≡◌ {A = ℕ} 9 0 = ap (λ (p : Result). get_or p.tally byte_total 0) (is_tallying answers_four d zeros input tt) in omega arith;
      -- the output's first byte stays
      written_at_full = λ d. let e : ◌≡◌ {A = ℕ} 0 211 = ap (λ (p : Result). get_or p.output 0 0) (is_tallying writes_at_full d full input tt) in omega arith;
      -- and so does the total
      not_never_full = λ d. let e : ◌≡◌ {A = ℕ} 9223372036854775807 9223372036854775816 = ap (λ (p : Result). get_or p.tally byte_total 0) (is_tallying never_full d full input tt) in omega arith;
    }
