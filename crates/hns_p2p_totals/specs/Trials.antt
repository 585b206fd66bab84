-- Wrong tallying pushes: some that T-01's claim on lists refuses, and some that lists do not show and its conditions do.
use Rattle.std.specs.Prelude.{ℕ, ◌+◌, List, [], ◌∷◌, ◌++◌, length, take, replicate}
use Rattle.hns_refusals.specs.Refusals.{magic_mismatch, tally_full}
use Rattle.hns_encoding.specs.Bytes.{choose}
use Rattle.hns_encoding.specs.Put.{splice}
use Rattle.hns_p2p_frame.specs.declared.NetworkMagic.{NetworkMagic}
use Rattle.hns_p2p_frame.specs.Delivered.{Accepted, Refused}
use Rattle.hns_p2p_frame.specs.Frame.{Frame}
use Rattle.hns_p2p_frame.specs.Walk.{cut}
use Rattle.hns_p2p_frame.specs.Push as ported
use Rattle.hns_p2p_frame.specs.Push.{passing, delivered}
use Rattle.hns_p2p_stream.specs.Runs.{told, PushOn}
use Rattle.hns_p2p_tally.specs.Tally.{tally_size, size_of, at_type, with_frame, recount, roomy}
use Rattle.hns_p2p_tally.specs.Tallying.{Result, passing_all, turned_away, counted, push_tallying}
use Rattle.hns_p2p_totals.specs.Conditions.{AnyTallying, TallyingExactlyFor}
use Rattle.hns_p2p_totals.specs.Totals.{leaves, TallyFor}

-- the push with the tally that g makes of the tally before, of all bytes that it walks, and of those that it delivers
unfoldable pub tallying_by : (NetworkMagic → List ℕ → List ℕ → List ℕ → List ℕ) → PushOn (List ℕ)
tallying_by g net z x o =
    let p = ported.push net z.store z.count x o in
    leaves (passing_all z.store z.count x o z.also
    (λ r. turned_away r z.store z.count o z.also)
    (record {
      answer = delivered p.answer;
      store = p.store;
      output = p.output;
      tally = g net z.also (take z.count z.store ++ x) (take (told (delivered p.answer)).bytes p.output);
    }))

-- frames counted one after another, in another way
unfoldable pub counting : (List ℕ → Frame → List ℕ) → List ℕ → List Frame → List ℕ
counting c t [] = t
counting c t (f ∷ fs) = counting c (c t f) fs

abbrev pub counting_by : (List ℕ → Frame → List ℕ) → PushOn (List ℕ)
counting_by c = tallying_by (λ net t xs d. counting c t (cut net d).frames)

-- nothing is counted
abbrev pub counts_none : PushOn (List ℕ)
counts_none = counting_by (λ t f. t)

-- payloads without the nine bytes before them
abbrev pub counts_payloads : PushOn (List ℕ)
counts_payloads = counting_by (λ t f. with_frame t f.packet_type (length f.payload))

-- each frame twice
abbrev pub counts_twice : PushOn (List ℕ)
counts_twice = counting_by (λ t f. with_frame (with_frame t f.packet_type (size_of f)) f.packet_type (size_of f))

-- the totals are forgotten
abbrev pub forgets_totals : PushOn (List ℕ)
forgets_totals = counting_by (λ t f. at_type t f.packet_type (size_of f))

-- another type's places
abbrev pub next_type : PushOn (List ℕ)
next_type = counting_by (λ t f. with_frame t (f.packet_type + 1) (size_of f))

-- the frames before a bad header too, which the ported push does not deliver
abbrev pub counts_before : PushOn (List ℕ)
counts_before = tallying_by (λ net t xs d. recount t (cut net xs).frames)

-- begun anew at each push
abbrev pub begins_anew : PushOn (List ℕ)
begins_anew = tallying_by (λ net t xs d. recount (replicate tally_size 0) (cut net d).frames)

-- every push is turned away, by 20
unfoldable pub refuses_all : PushOn (List ℕ)
refuses_all net z x o = leaves (turned_away tally_full z.store z.count o z.also)

-- turned away by 20, and the input is stored and held
unfoldable pub stores_at_full : PushOn (List ℕ)
stores_at_full net z x o =
    leaves (passing z.store z.count x o (λ r. turned_away r z.store z.count o z.also)
    (choose (roomy z.also (z.count + length x))
    (push_tallying net z.store z.count x o z.also)
    (record { answer = Refused tally_full 0 0 (z.count + length x); store = splice z.store z.count x; output = o; tally = z.also })))

-- `tally_trials` of proofs/Trials.antt
pub record TallyTrials : Type 0 where
  pub nothing_counted : ¬ TallyFor counts_none
  pub payloads_counted : ¬ TallyFor counts_payloads
  pub counted_twice : ¬ TallyFor counts_twice
  pub totals_forgotten : ¬ TallyFor forgets_totals
  pub another_type : ¬ TallyFor next_type
  pub counted_before : ¬ TallyFor counts_before
  pub begun_anew : ¬ TallyFor begins_anew
  pub all_refused : ¬ TallyFor refuses_all
  pub stored_at_full : ¬ TallyFor stores_at_full

-- ---- wrong in one answer

-- what follows the tests 18, 6, 17, 16
abbrev pub after_tests : (List ℕ → ℕ → List ℕ → List ℕ → List ℕ → Result) → AnyTallying
after_tests q net s h x o t = passing s h x o (λ r. turned_away r s h o t) (q s h x o t)

-- the bytes are taken, and no frame is handed out
abbrev pub hands_out_none : AnyTallying
hands_out_none = after_tests (λ s h x o t. record { answer = Accepted 0 0 (h + length x); store = splice s h x; output = o; tally = t })

-- the bytes are taken, and 4 is answered whatever they are
abbrev pub answers_four : AnyTallying
answers_four = after_tests (λ s h x o t. record { answer = Refused (magic_mismatch 0 0) 0 0 (h + length x); store = splice s h x; output = o; tally = t })

-- 20, and the input stands in the output
abbrev pub writes_at_full : AnyTallying
writes_at_full = after_tests (λ s h x o t. record { answer = Refused tally_full 0 0 h; store = s; output = splice o 0 x; tally = t })

-- 20 is never given
unfoldable pub never_full : AnyTallying
never_full net s h x o t =
    let p = ported.push net s h x o in
    passing s h x o (λ r. turned_away r s h o t) (counted net t (delivered p.answer) p.store p.output)

-- `answer_trials` of proofs/Trials.antt
pub record AnswerTrials : Type 0 where
  pub none_handed_out : ¬ TallyingExactlyFor hands_out_none
  pub four_answered : ¬ TallyingExactlyFor answers_four
  pub written_at_full : ¬ TallyingExactlyFor writes_at_full
  pub not_never_full : ¬ TallyingExactlyFor never_full
