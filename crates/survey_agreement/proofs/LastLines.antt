-- The last lines that the program can give. A stop is 4, 5 or 17: a chunk that the store takes is taken by the output and the stream too. Assumes nothing.
use Prim.Native.Nat.{ℕ, zero, suc, ◌≤◌, zero-le}
use mathlib.Core.Path.{◌≡◌, refl, sym, ◌∙◌}
use mathlib.Core.List.{List}
use mathlib.Core.Logic.{◌⊎◌, inl, inr}
use native.Mathlib.Omega.{arith}
use lib.ListN.{length, take, drop, length-take}
use lib.Dec.{leb, eqb}
use Rattle.hns_refusals.specs.declared.Refusal.{Refusal}
use Rattle.hns_refusals.specs.Refusals.{number}
use Rattle.hns_encoding.specs.Bytes.{Bytes, none}
use Rattle.hns_encoding.proofs.Numbers.{bytes_drop, bytes_take}
use Rattle.hns_encoding.proofs.Outcomes.{choose_holds}
use Rattle.hns_p2p_frame.specs.declared.NetworkMagic.TheVariants.{Mainnet}
use Rattle.hns_p2p_frame.specs.Frame.{Frame, bad}
use Rattle.hns_p2p_frame.specs.Conditions.{FrontIs, wrong, long}
use Rattle.hns_p2p_frame.specs.Push.{Result, push}
use Rattle.hns_p2p_stream.specs.Conditions.{PushIs, if_held_over, stream_over, if_store_short, if_output_short, if_bad_header, accepted}
use Rattle.hns_p2p_stream.specs.Stream.{held_count}
use Rattle.hns_p2p_stream.proofs.Conditions.{push_exactly}
use Rattle.hns_p2p_stream.proofs.Pushes.{Good, steps, step_good, step_long}
use Rattle.survey_export.specs.Survey.{chunk_size, room_size, Survey, held, stop, Added, added_by, Chunk, chunk, survey_by, survey_from, survey}
use Rattle.survey_agreement.specs.Agreement.{LastLine, LastLines}
use Rattle.survey_agreement.proofs.Sizes.{push_output}

never : {n r : ℕ} → held n ≡ stop r → ⊥
never e = let z : ◌≡◌ {A = ℕ} 0 1 = cc e in omega arith

stop_one : {n r : ℕ} → stop n ≡ stop r → n ≡ r
stop_one e = cc

-- a survey that ends in `held h`
held_line : (h : ℕ) → h ≤ room_size → {fs : List Frame} → LastLine (record { frames = fs; last = held h })
held_line h k = record { stops = λ r q. absurd (never q); holds = λ n q. let same : h ≡ n = cc q in omega arith }

stop_line : (r : ℕ) → (r ≡ 4) ⊎ (r ≡ 5) ⊎ (r ≡ 17) → {fs : List Frame} → LastLine (record { frames = fs; last = stop r })
stop_line r k = record { stops = λ n q. rw (stop_one q) at k; holds = λ n q. absurd (never (sym q)) }

header_line : {xs : List ℕ} {r : Refusal} → FrontIs Mainnet xs (bad r) → {fs : List Frame} → LastLine (record { frames = fs; last = stop (number r) })
header_line (wrong a b) = stop_line 4 (inl refl)
header_line (long a b c) = stop_line 5 (inr (inl refl))

-- what the push of a chunk leads to, where it was p and `go` is the survey of what follows
turn : {s : List ℕ} {h : ℕ} {x o : List ℕ} → h ≤ length s → length x ≤ chunk_size → length s ≡ room_size → length o ≡ room_size → {p : Result} → PushIs Mainnet s h x o p → held_count p.answer ≤ room_size
    → (go : ℕ → Survey) → LastLine (go (held_count p.answer)) → LastLine (survey_by (added_by (length x) p.answer p.output) go)
unfolding survey_by added_by held_count
turn there small a b (if_held_over c) k go next = absurd (omega arith)
turn there small a b (stream_over c d) k go next = absurd (omega arith)
turn there small a b (if_store_short c d e) k go next = stop_line 17 (inr (inr refl))
turn there small a b (if_output_short c d e f) k go next = absurd (omega arith)
turn there small a b (if_bad_header c fs rest r d e) k go next = header_line e
turn {x = x} there small a b (accepted c fs rest d e) k go next =
    choose_holds (λ (w : Added). LastLine (survey_by w go)) (leb chunk_size (length x)) (λ f. record { stops = next.stops; holds = next.holds }) (λ f. held_line (length rest) k)

from : (n : ℕ) (s : List ℕ) (h : ℕ) (o log : List ℕ) → Good s h → length s ≡ room_size → length o ≡ room_size → Bytes log → LastLine (survey_from n s h o log)
unfolding survey_from survey_by chunk
from zero s h o log g a b c = held_line h (omega (arith, g.fits))
from (suc n) s h o log g a b c =
    let x = take chunk_size log in
    let p = push Mainnet s h x o in
    let st = steps Mainnet s h x o g (bytes_take chunk_size c) in
    let good = step_good st g (bytes_take chunk_size c) in
    choose_holds (λ (k : Chunk). LastLine (survey_by k.added (λ h'. survey_from n k.store h' k.output (drop chunk_size log)))) (eqb (length x) 0)
    (λ e. held_line h (omega (arith, g.fits)))
    (λ e. turn g.fits (omega (arith, length-take chunk_size log)) a b ((push_exactly Mainnet s h x o g.bytes (bytes_take chunk_size c) p).0 refl) (omega (arith, good.fits, step_long st)) (λ h'. survey_from n p.store h' p.output (drop chunk_size log))
    (from n p.store (held_count p.answer) p.output (drop chunk_size log) good (step_long st ∙ a) (push_output s h x o ∙ b) (bytes_drop chunk_size c)))

pub last_lines : LastLines
unfolding survey
last_lines s o log c a b = from (suc (length log)) s 0 o log (record { fits = zero-le; bytes = none }) a b c
