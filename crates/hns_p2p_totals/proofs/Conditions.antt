-- The tallying push's answers as conditions, both ways, and its refusals. Assumes nothing.
use Prim.Native.Nat.{ℕ, ◌+◌, ◌≤◌}
use mathlib.Core.Path.{◌≡◌, refl, sym, ap, ◌∙◌, subst}
use mathlib.Core.List.{List, ◌++◌}
use mathlib.Core.Logic.{◌⊎◌, inl, inr, ⊎_elim}
use native.Mathlib.Omega.{arith}
use lib.ListN.{get_or, length, take}
use Rattle.std.specs.Prelude.{Ok, Err}
use Rattle.hns_refusals.specs.declared.Refusal.{Refusal}
use Rattle.hns_refusals.specs.Refusals.{number, values, output_short, tally_full}
use Rattle.hns_encoding.specs.Bytes.{Bytes}
use Rattle.hns_encoding.specs.Put.{splice}
use Rattle.hns_p2p_frame.specs.declared.NetworkMagic.{NetworkMagic}
use Rattle.hns_p2p_frame.specs.Pushed.{Pushed}
use Rattle.hns_p2p_frame.specs.Pushed as P
use Rattle.hns_p2p_frame.specs.Delivered.{Refused}
use Rattle.hns_p2p_frame.specs.Frame.{Frame, encodings, bad}
use Rattle.hns_p2p_frame.specs.Walk.{cut_up_to, cut, walk}
use Rattle.hns_p2p_frame.specs.Push as ported
use Rattle.hns_p2p_frame.specs.Push.{settled, passing, admitted, delivered}
use Rattle.hns_p2p_frame.specs.Conditions.{FrontIs, wrong, long}
use Rattle.hns_p2p_frame.proofs.Tests.{over, large, unstored, no_room, fits, passing_is, passing_away}
use Rattle.hns_p2p_stream.specs.Stream.{Delivers}
use Rattle.hns_p2p_stream.specs.Runs.{told}
use Rattle.hns_p2p_stream.specs.Conditions as push
use Rattle.hns_p2p_stream.specs.Conditions.{Fits, PushIs, if_held_over, stream_over, if_store_short, if_output_short, if_bad_header, accepted}
use Rattle.hns_p2p_stream.proofs.Conditions.{push_exactly, push_refusals}
use Rattle.hns_p2p_stream.proofs.Encodings.{frames_encodings, encodings_one}
use Rattle.hns_p2p_stream.proofs.Pushes.{Stepped, away, header, taken, steps}
use Rattle.hns_p2p_tally.specs.Tally.{tally_size, recount, Passes}
use Rattle.hns_p2p_tally.specs.Tallying.{Result, turned_away, counted, push_tallying}
use Rattle.hns_p2p_tally.proofs.Tested.{AllTested, of_push, short, full, room, passes_all, passing_all_is, roomy_true, roomy_is, roomy_false, passes_is}
use Rattle.hns_p2p_totals.specs.Conditions.{beside, TallyingIs, push_turned_away, tally_short, if_tally_full, pushed, TallyingExactly, FullExactly, RefusedBy, TallyingRefusals}
use Rattle.hns_p2p_totals.proofs.Rooms.{passed_fits, fits_passed}

-- the frames whose encodings a push put at the output's front
abbrev handed : NetworkMagic → ported.Result → List Frame
handed net p = (cut net (take (told (delivered p.answer)).bytes p.output)).frames

module _ {net : NetworkMagic} {s : List ℕ} {h : ℕ} {x o : List ℕ} where
  -- they are those delivered
  delivers : {p : ported.Result} → Stepped net s h x o p → Delivers net p.answer p.output (handed net p)
  unfolding delivered told Delivers cut cut_up_to
  delivers (away r e) = refl
  delivers (header r s' t w e l k) = refl
  delivers (taken fs rest s' o' a) =
      let same : (cut net (take (length (encodings net fs)) o')).frames ≡ fs = rw a.delivered (frames_encodings net fs a.well_formed) in
      rw same (refl, sym a.delivered, a.room)

  -- and there is one list of them only
  one_list : {p : ported.Result} → Stepped net s h x o p → (fs : List Frame) → Delivers net p.answer p.output fs → handed net p ≡ fs
  unfolding delivered told Delivers cut cut_up_to
  one_list (away r e) fs d = sym d
  one_list (header r s' t w e l k) fs d = sym d
  one_list (taken gs rest s' o' a) fs d =
      ap (λ (l : List ℕ). (cut net l).frames) a.delivered ∙ frames_encodings net gs a.well_formed
      ∙ encodings_one net gs fs (omega (arith, a.limit)) (sym d.0) (sym (d.1 ∙ a.delivered))

-- ---- what a refusal of the ported push is

record Inverted (a : Pushed) (r : Refusal) (n m k : ℕ) : Type 0 where
  answer : a ≡ P.Refused r k
  frames : n ≡ 0
  bytes : m ≡ 0

inverted : (a : Pushed) {r : Refusal} {n m k : ℕ} → delivered a ≡ Refused r n m k → Inverted a r n m k
unfolding delivered
inverted (P.Accepted n m k) e = absurd (cc)
inverted (P.Refused r k) e = record { answer = cc; frames = cc; bytes = cc }

same_c : {q r : Refusal} {n k : ℕ} → P.Refused q n ≡ P.Refused r k → get_or (values q) 2 0 ≡ 0 → get_or (values r) 2 0 ≡ 0
same_c {q} {r} e c = let i : q ≡ r = cc in subst (λ (v : Refusal). get_or (values v) 2 0 ≡ 0) i c

front_no_c : {net : NetworkMagic} {rest : List ℕ} {r : Refusal} → FrontIs net rest (bad r) → get_or (values r) 2 0 ≡ 0
front_no_c (wrong a e) = refl
front_no_c (long a e f) = refl

no_c : {net : NetworkMagic} {s : List ℕ} {h : ℕ} {x o : List ℕ} {w : ported.Result} → PushIs net s h x o w → {r : Refusal} {k : ℕ} → w.answer ≡ P.Refused r k → get_or (values r) 2 0 ≡ 0
no_c (if_held_over a) e = same_c e refl
no_c (stream_over a b) e = same_c e refl
no_c (if_store_short a b c) e = same_c e refl
no_c (if_output_short a b c d) e = same_c e refl
no_c (if_bad_header f fs rest r c w) e = same_c e (front_no_c w)
no_c (accepted f fs rest c w) e = absurd (cc)

wider : {s : List ℕ} {h : ℕ} {o : List ℕ} {r : Refusal} {k : ℕ} {w : ported.Result} → push.Untouched s h o r k w → (number r ≡ 6) ⊎ (number r ≡ 16) ⊎ (number r ≡ 17) ⊎ (number r ≡ 18) ⊎ (number r ≡ 20)
wider u = ⊎_elim (λ i. inl i) (⊎_elim (λ i. inr (inl i)) (⊎_elim (λ i. inr (inr (inl i))) (λ i. inr (inr (inr (inl i)))))) u.number

none_counted : (net : NetworkMagic) (t o : List ℕ) (a : Pushed) (fs : List Frame) → Delivers net a o fs → {r : Refusal} {k : ℕ} → a ≡ P.Refused r k → recount t fs ≡ t
unfolding Delivers recount
none_counted net t o (P.Accepted n m k) fs d e = absurd (cc e)
none_counted net t o (P.Refused r k) fs d e = rw d

module _ (net : NetworkMagic) (s : List ℕ) (h : ℕ) (x o t : List ℕ) where
  turned : Refusal → Result
  turned r = turned_away r s h o t

  done : Result
  done = let p = ported.push net s h x o in counted net t (delivered p.answer) p.store p.output

  given : {q : Result} → AllTested s h x o t turned done q → push_tallying net s h x o t ≡ q
  unfolding push_tallying turned done
  given a = passing_all_is s h x o t turned done a

  -- the ported push turned away
  push_away : {r : Refusal} → passing s h x o Err (Ok (h + length x)) ≡ Err r → ported.push net s h x o ≡ ported.turned_away r s h o
  unfolding ported.push admitted
  push_away e = passing_away s h x o refl e (λ (v : Refusal). ported.turned_away v s h o) (settled net (walk net (take h s ++ x)) (splice s h x) (h + length x) o)

  not_fits : {r : Refusal} → passing s h x o Err (Ok (h + length x)) ≡ Err r → ¬ Fits s h x o
  not_fits {r} e f =
      let q : passing s h x o Err (Ok (h + length x)) ≡ Ok (h + length x) = passing_is (fits f.held f.stream f.store f.output) in
      cc (q, e)

  module _ (b : Bytes (take h s)) (d : Bytes x) where
    push_seen : PushIs net s h x o (ported.push net s h x o)
    push_seen = (push_exactly net s h x o b d (ported.push net s h x o)).0 refl

    stepped : h ≤ length s → Stepped net s h x o (ported.push net s h x o)
    stepped g = steps net s h x o (record { fits = g; bytes = b }) d

    seen : TallyingIs net s h x o t (push_tallying net s h x o t)
    unfolding push_tallying turned done delivered
    seen = go (passes_all s h x o t turned done)
      where
        go : {q : Result} → AllTested s h x o t turned done q → TallyingIs net s h x o t q
        go (of_push e) = let c : TallyingIs net s h x o t (beside (ported.push net s h x o) t) = push_turned_away (not_fits e) push_seen in rw (push_away e) at c
        go (short f l) = tally_short (passed_fits f) l
        go (full f l e) = if_tally_full (passed_fits f) l (roomy_false t (h + length x) e)
        go (room f l e) = pushed (passed_fits f) (roomy_true t (h + length x) l e) push_seen (handed net (ported.push net s h x o)) (delivers (stepped f.held))

    -- the other way: a case's facts say which it is
    case_is : {q : Result} → TallyingIs net s h x o t q → push_tallying net s h x o t ≡ q
    unfolding turned done delivered
    case_is (push_turned_away n p) = go n p
      where
        go : ¬ Fits s h x o → {w : ported.Result} → PushIs net s h x o w → push_tallying net s h x o t ≡ beside w t
        go n (if_held_over a) = given (of_push (passing_is (over a)))
        go n (stream_over a c) = given (of_push (passing_is (large a c)))
        go n (if_store_short a c e) = given (of_push (passing_is (unstored a c e)))
        go n (if_output_short a c e f) = given (of_push (passing_is (no_room a c e f)))
        go n (if_bad_header f fs rest r c e) = absurd (n f)
        go n (accepted f fs rest c e) = absurd (n f)
    case_is (tally_short f l) = given (short (fits_passed f) l)
    case_is (if_tally_full f l e) = given (full (fits_passed f) l (passes_is t (h + length x) e))
    case_is (pushed f r {p = w} p fs e) =
        let same : ported.push net s h x o ≡ w = (push_exactly net s h x o b d w).1 p in
        let st : Stepped net s h x o w = rw same at (stepped f.held) in
        given (room (fits_passed f) r.size (roomy_is t (h + length x) r))
        ∙ ap (λ (q : ported.Result). beside q (recount t (handed net q))) same
        ∙ ap (λ (gs : List Frame). beside w (recount t gs)) (one_list st fs e)

    -- ---- refusals

    -- w is what the ported push left, and t' the tally that stands beside it
    from_push : {w : ported.Result} → PushIs net s h x o w → {t' : List ℕ} → ((r : Refusal) (k : ℕ) → w.answer ≡ P.Refused r k → t' ≡ t)
        → {r : Refusal} {n m k : ℕ} → delivered w.answer ≡ Refused r n m k → RefusedBy s h x o t r n m k (beside w t')
    from_push {w} p i {r} {n} {m} {k} e =
        let v = inverted w.answer e in
        let same : ported.push net s h x o ≡ w = (push_exactly net s h x o b d w).1 p in
        let refused : push.Untouched s h o r k w ⊎ push.Appended s h x o r k w = (rw same at (push_refusals net s h x o b d r k)) v.answer in
        record {
          frames = v.frames;
          bytes = v.bytes;
          no_c = no_c p v.answer;
          leaves = ⊎_elim
              (λ u. inl (record { number = wider u; store = u.store; output = u.output; tally = i r k v.answer; held = u.held }))
              (λ u. inr (record { number = u.number; store = u.store; output = u.output; tally = i r k v.answer; held = u.held }))
              refused;
        }

    -- turned away by q, which is no refusal of the ported push
    from_tally : {q : Refusal} → (number q ≡ 16) ⊎ (number q ≡ 20) → get_or (values q) 2 0 ≡ 0 → {r : Refusal} {n m k : ℕ} → Refused q 0 0 h ≡ Refused r n m k
        → RefusedBy s h x o t r n m k (turned_away q s h o t)
    from_tally {q} number c {r} e =
        let same : q ≡ r = cc in
        record {
          frames = cc;
          bytes = cc;
          no_c = subst (λ (v : Refusal). get_or (values v) 2 0 ≡ 0) same c;
          leaves = inl (record { number = ⊎_elim (λ i. inr (inl (rw (← same) i))) (λ i. inr (inr (inr (inr (rw (← same) i))))) number; store = refl; output = refl; tally = refl; held = cc });
        }

    refuses : {q : Result} → TallyingIs net s h x o t q → {r : Refusal} {n m k : ℕ} → q.answer ≡ Refused r n m k → RefusedBy s h x o t r n m k q
    refuses (push_turned_away n p) e = from_push p (λ v j i. refl) e
    refuses (tally_short f l) e = from_tally (inl refl) refl e
    refuses (if_tally_full f l p) e = from_tally (inr refl) refl e
    refuses (pushed f r {p = w} p fs c) e = from_push p (λ v j i. none_counted net t w.output w.answer fs c i) e

    -- ---- 20

    push_below : {w : ported.Result} → PushIs net s h x o w → {r : Refusal} {k : ℕ} → delivered w.answer ≡ Refused r 0 0 k → number r ≡ 20 → ⊥
    push_below {w} p {r} {k} e n =
        let same : ported.push net s h x o ≡ w = (push_exactly net s h x o b d w).1 p in
        let refused : push.Untouched s h o r k w ⊎ push.Appended s h x o r k w = (rw same at (push_refusals net s h x o b d r k)) (inverted w.answer e).answer in
        ⊎_elim
        (λ u. ⊎_elim (λ i. omega (arith, i)) (⊎_elim (λ i. omega (arith, i)) (⊎_elim (λ i. omega (arith, i)) (λ i. omega (arith, i)))) u.number)
        (λ u. ⊎_elim (λ i. omega (arith, i)) (λ i. omega (arith, i)) u.number)
        refused

    full_only : {q : Result} → TallyingIs net s h x o t q → {r : Refusal} {k : ℕ} → number r ≡ 20 → q.answer ≡ Refused r 0 0 k → Fits s h x o × (tally_size ≤ length t) × Passes t (h + length x)
    full_only (push_turned_away n p) i e = absurd (push_below p e i)
    full_only (tally_short f l) {r} i e = let same : output_short tally_size ≡ r = cc in absurd (let j : ◌≡◌ {A = ℕ} 16 20 = rw (← same) at i in let z : ⊥ = omega arith in z)
    full_only (if_tally_full f l p) i e = (f, l, p)
    full_only (pushed f r p fs c) i e = absurd (push_below p e i)

pub tallying_exactly : TallyingExactly
tallying_exactly net s h x o t b d p = (λ e. rw e at (seen net s h x o t b d), case_is net s h x o t b d)

pub full_exactly : FullExactly
full_exactly net s h x o t b d =
    (λ e. full_only net s h x o t b d (seen net s h x o t b d) e.2 e.3, λ e. (tally_full, h, refl, ap (λ (q : Result). q.answer) (case_is net s h x o t b d (if_tally_full e.0 e.1 e.2))))

pub tallying_refusals : TallyingRefusals
tallying_refusals net s h x o t b d r n m k = refuses net s h x o t b d (seen net s h x o t b d)
