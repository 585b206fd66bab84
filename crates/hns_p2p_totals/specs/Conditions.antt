-- Document 02, T-01: the answers of the tallying push as conditions, both ways, with what store, output and tally then hold; which refusals it can give, and what each leaves.
use Rattle.std.specs.Prelude.{ℕ, ◌+◌, ◌≤◌, ◌<◌, ◌≡◌, List, ◌++◌, ◌⊎◌, length, get_or, take, drop}
use Rattle.hns_refusals.specs.declared.Refusal.{Refusal}
use Rattle.hns_refusals.specs.Refusals.{number, values, output_short, tally_full}
use Rattle.hns_encoding.specs.Bytes.{Bytes}
use Rattle.hns_p2p_frame.specs.declared.NetworkMagic.{NetworkMagic}
use Rattle.hns_p2p_frame.specs.Delivered.{Refused}
use Rattle.hns_p2p_frame.specs.Frame.{Frame}
use Rattle.hns_p2p_frame.specs.Push as ported
use Rattle.hns_p2p_frame.specs.Push.{delivered}
use Rattle.hns_p2p_frame.specs.Conditions.{◌⇔◌}
use Rattle.hns_p2p_stream.specs.Stream.{Delivers}
use Rattle.hns_p2p_stream.specs.Conditions.{Fits, PushIs}
use Rattle.hns_p2p_tally.specs.Tally.{tally_size, recount, Roomy, Passes}
use Rattle.hns_p2p_tally.specs.Tallying.{Result, turned_away, push_tallying}

-- what the ported push left, with a tally beside it
abbrev pub beside : ported.Result → List ℕ → Result
beside p t = record { answer = delivered p.answer; store = p.store; output = p.output; tally = t }

pub data TallyingIs (net : NetworkMagic) (s : List ℕ) (h : ℕ) (x o t : List ℕ) : Result → Type 0 where
  -- 18, 6, 17, 16: as the ported push is turned away, and the tally stays
  push_turned_away : ¬ Fits s h x o → {p : ported.Result} → PushIs net s h x o p → TallyingIs net s h x o t (beside p t)
  -- 16: a tally that is too short; a the numbers needed
  tally_short : Fits s h x o → length t < tally_size → TallyingIs net s h x o t (turned_away (output_short tally_size) s h o t)
  -- 20
  if_tally_full : Fits s h x o → tally_size ≤ length t → Passes t (h + length x) → TallyingIs net s h x o t (turned_away tally_full s h o t)
  -- with room it is the ported push, and the frames that this delivers are counted: none where it is refused for a header
  pushed : Fits s h x o → Roomy t (h + length x) → {p : ported.Result} → PushIs net s h x o p → (fs : List Frame) → Delivers net p.answer p.output fs
      → TallyingIs net s h x o t (beside p (recount t fs))

-- network, store, held count, input, output and tally to answer, store, output and tally
abbrev pub AnyTallying : Type 0
AnyTallying = NetworkMagic → List ℕ → ℕ → List ℕ → List ℕ → List ℕ → Result

-- each answer of P is given exactly when its case holds
abbrev pub TallyingExactlyFor : AnyTallying → Type 0
TallyingExactlyFor P =
    (net : NetworkMagic) (s : List ℕ) (h : ℕ) (x o t : List ℕ) → Bytes (take h s) → Bytes x → (p : Result) → (P net s h x o t ≡ p) ⇔ TallyingIs net s h x o t p

-- `tallying_exactly` of proofs/Conditions.antt
abbrev pub TallyingExactly : Type 0
TallyingExactly = TallyingExactlyFor push_tallying

-- `full_exactly` of proofs/Conditions.antt: 20 exactly if no test before it refuses and a total would pass
abbrev pub FullExactly : Type 0
FullExactly =
    (net : NetworkMagic) (s : List ℕ) (h : ℕ) (x o t : List ℕ) → Bytes (take h s) → Bytes x
    → ((r : Refusal) × (k : ℕ) × (number r ≡ 20) × ((push_tallying net s h x o t).answer ≡ Refused r 0 0 k))
    ⇔ (Fits s h x o × (tally_size ≤ length t) × Passes t (h + length x))

-- ---- demand 1 of the tallying push

-- turned away: nothing is written
pub record Untouched (s : List ℕ) (h : ℕ) (o t : List ℕ) (r : Refusal) (k : ℕ) (p : Result) : Type 0 where
  pub number : (number r ≡ 6) ⊎ (number r ≡ 16) ⊎ (number r ≡ 17) ⊎ (number r ≡ 18) ⊎ (number r ≡ 20)
  pub store : p.store ≡ s
  pub output : p.output ≡ o
  pub tally : p.tally ≡ t
  pub held : k ≡ h

-- refused for a header: the input was added to the held bytes, and nothing else is written
pub record Appended (s : List ℕ) (h : ℕ) (x o t : List ℕ) (r : Refusal) (k : ℕ) (p : Result) : Type 0 where
  pub number : (number r ≡ 4) ⊎ (number r ≡ 5)
  pub store : p.store ≡ take h s ++ (x ++ drop (h + length x) s)
  pub output : p.output ≡ o
  pub tally : p.tally ≡ t
  pub held : k ≡ h + length x

-- a refusal of n frames and b bytes: there are none of either, and the refusal has no value c
pub record RefusedBy (s : List ℕ) (h : ℕ) (x o t : List ℕ) (r : Refusal) (n b k : ℕ) (p : Result) : Type 0 where
  pub frames : n ≡ 0
  pub bytes : b ≡ 0
  pub no_c : get_or (values r) 2 0 ≡ 0
  pub leaves : Untouched s h o t r k p ⊎ Appended s h x o t r k p

-- `tallying_refusals` of proofs/Conditions.antt
abbrev pub TallyingRefusals : Type 0
TallyingRefusals =
    (net : NetworkMagic) (s : List ℕ) (h : ℕ) (x o t : List ℕ) → Bytes (take h s) → Bytes x → (r : Refusal) (n b k : ℕ)
    → (push_tallying net s h x o t).answer ≡ Refused r n b k → RefusedBy s h x o t r n b k (push_tallying net s h x o t)
