-- What `push_counting` owes at each return, on plain lists. Assumes nothing.
use Prim.Native.Nat.{ℕ, ◌+◌, ◌≤◌, ◌<◌, ◌^◌}
use native.Mathlib.Omega.{arith}
use mathlib.Core.Path.{◌≡◌, sym, ap, ap₂, ◌∙◌}
use mathlib.Core.List.{List, [], ◌++◌, append-nil}
use lib.ListN.{length, get_or, take, drop, take-append-drop}
use lib.Seq.{length-take-le}
use Rattle.std.proofs.lemmas.List.{get_or-take}
use Rattle.std.specs.Prelude.{Ok, Err}
use Rattle.hns_refusals.specs.Refusals.{Answer}
use Rattle.hns_refusals.specs.declared.Refusal.{Refusal}
use Rattle.hns_encoding.proofs.Numbers.{bytes_take, bytes_known}
use Rattle.hns_encoding.specs.Format.{All}
use Rattle.hns_p2p_frame.specs.declared.NetworkMagic.{NetworkMagic}
use Rattle.hns_p2p_frame.specs.declared.Pushed.{Pushed}
use Rattle.hns_p2p_frame.specs.Pushed as P
use Rattle.hns_p2p_frame.specs.Frame.{Frame, WellFormed, encodings}
use Rattle.hns_p2p_frame.specs.Conditions.{few}
use Rattle.hns_p2p_frame.specs.Walk.{Cutting, unfinished, cut_up_to, cut}
use Rattle.hns_p2p_frame.specs.Push as ported
use Rattle.hns_p2p_frame.specs.Push.{delivered}
use Rattle.hns_p2p_frame.specs.Answers.{pushed_of, delivered_of, beside}
use Rattle.hns_p2p_frame.proofs.Fronts.{front_is}
use Rattle.hns_p2p_frame.proofs.Walks.{cut_open}
use Rattle.hns_p2p_frame.proofs.Told.{pushed_accepted, pushed_refused, beside_is}
use Rattle.hns_p2p_stream.specs.Runs.{told}
use Rattle.hns_p2p_stream.proofs.Encodings.{cut_encodings}
use Rattle.hns_p2p_stream.proofs.Pushes.{Stepped, away, header, taken, steps}
use Rattle.hns_p2p_tally.specs.Tally.{tally_size, frame_total, byte_total, recount}
use Rattle.hns_p2p_tally.specs.Tallying.{Result, passing_all, turned_away, counted, push_tallying}
use Rattle.hns_p2p_tally.specs.Helpers.{Whole, by_type, with_totals, answered}
use Rattle.hns_p2p_tally.proofs.Behind.{recount_behind}
use Rattle.hns_p2p_tally.proofs.Once.{sizes, sizes_are, totals_once}
use Rattle.hns_p2p_tally.proofs.Tested.{AllPassed, away_is, all_passed, all_passed_is}

-- what a function ensures that is to give this result
abbrev pub Gives : Result → Answer Pushed → ℕ → List ℕ → List ℕ → List ℕ → Type 0
Gives p r h s o t = record { value : answered r h ≡ delivered_of p.answer; store_after : s ≡ p.store; output_after : o ≡ p.output; tally_after : t ≡ p.tally }

gives : {p : Result} (q : Result) (r : Answer Pushed) (h : ℕ) → p ≡ q → answered r h ≡ delivered_of q.answer → Gives p r h q.store q.output q.tally
gives q r h e a = record { value = rw e a; store_after = rw e; output_after = rw e; tally_after = rw e }

-- the tally's own numbers, and those behind them
pub joined : {t k : List ℕ} → k ≡ take tally_size t → k ++ drop tally_size t ≡ t
joined {t} i = ap (λ (l : List ℕ). l ++ drop tally_size t) i ∙ take-append-drop tally_size t

-- ---- encodings of frames are whole frames

cut_whole : (net : NetworkMagic) (fs : List Frame) → All WellFormed fs → cut net (encodings net fs) ≡ record { frames = fs; rest = []; why = unfinished }
cut_whole net fs a =
    ap (cut net) (sym (append-nil (encodings net fs))) ∙ cut_encodings net fs [] a ∙ rw (cut_open net [] (front_is (few (omega arith))), append-nil)

-- what an accepted push put at the output's front: n frames, whose encodings are its first b bytes
record Front (net : NetworkMagic) (n b : ℕ) (o : List ℕ) : Type 0 where
  frames : List Frame
  count : length frames ≡ n
  are : take b o ≡ encodings net frames
  size : length (encodings net frames) ≡ b
  well_formed : All WellFormed frames

module _ (net : NetworkMagic) (s : List ℕ) (h : ℕ) (x o t : List ℕ) {a : Answer ℕ} (q : a ≡ passing_all s h x o t Err (Ok (h + length x))) where
  pushed : Result
  pushed = let p = ported.push net s h x o in counted net t (delivered p.answer) p.store p.output

  pub turned : {r : Refusal} → a ≡ Err r → {v : Answer Pushed} → v ≡ Err r → {t' : List ℕ} → t' ≡ t → Gives (push_tallying net s h x o t) v h s o t'
  unfolding push_tallying pushed delivered_of beside answered
  turned {r} e {v} i j = rw j (gives (turned_away r s h o t) v h (away_is s h x o t q e (λ (v : Refusal). turned_away v s h o t) pushed) (rw i))

  -- r is what the push answered, and s₁ and o₁ are what it left
  module _ {n : ℕ} (e : a ≡ Ok n) {r : Pushed} {s₁ o₁ : List ℕ}
      (p : record { value : r ≡ pushed_of (ported.push net s h x o).answer; store_after : s₁ ≡ (ported.push net s h x o).store; output_after : o₁ ≡ (ported.push net s h x o).output }) where
    pub passed : AllPassed s h x o t
    passed = all_passed s h x o t q e

    -- what it answered, counted
    whole : Gives (push_tallying net s h x o t) (Ok r) h s₁ o₁ (recount t (cut net (take (told (delivered (ported.push net s h x o).answer)).bytes o₁)).frames)
    unfolding push_tallying pushed answered
    whole =
        rw (p.store_after, p.output_after)
        (gives pushed (Ok r) h (all_passed_is s h x o t (λ (v : Refusal). turned_away v s h o t) pushed passed) (ap (λ (v : Pushed). beside v.delivered v.held) p.value ∙ beside_is (ported.push net s h x o).answer))

    -- refused for a header: nothing is counted
    pub refuses : {v : Refusal} → r.delivered ≡ Err v → {t' : List ℕ} → t' ≡ t → Gives (push_tallying net s h x o t) (Ok r) h s₁ o₁ t'
    unfolding delivered told cut cut_up_to recount
    refuses f i = rw i (rw (pushed_refused (ported.push net s h x o).answer p.value f) at whole)

    module _ (held : (i : ℕ) → get_or s i 0 < 256) (input : (i : ℕ) → get_or x i 0 < 256) {m b : ℕ} (f : r.delivered ≡ Ok (record { frames = m; bytes = b })) where
      accepts : (ported.push net s h x o).answer ≡ P.Accepted m b r.held
      accepts = pushed_accepted (ported.push net s h x o).answer p.value f

      front : Front net m b o₁
      front = go (steps net s h x o (record { fits = passed.passed.held; bytes = bytes_take h (bytes_known s held) }) (bytes_known x input)) p.output_after (sym accepts)
        where
          go : {w : ported.Result} → Stepped net s h x o w → o₁ ≡ w.output → P.Accepted m b r.held ≡ w.answer → Front net m b o₁
          go (away v u) g i = absurd (cc i)
          go (header v s' u w y z l) g i = absurd (cc i)
          go (taken fs rest s' o' c) g i =
              let size : length (encodings net fs) ≡ b = cc i in
              record { frames = fs; count = cc i; are = rw (g, ← size) c.delivered; size = size; well_formed = c.well_formed }

      -- d is the output's first b bytes
      module _ {d : List ℕ} (g : d ≡ take b o₁) where
        cut_is : cut net d ≡ record { frames = front.frames; rest = []; why = unfinished }
        cut_is = ap (cut net) (g ∙ front.are) ∙ cut_whole net front.frames front.well_formed

        pub is_whole : Whole net d
        is_whole = ap (λ (c : Cutting). c.rest) cut_is

        -- k is the tally's own numbers, with what was counted in them
        pub counts : ((i : ℕ) → get_or t i 0 < 2 ^ 64) → {k : List ℕ} → k ≡ take tally_size t → {t₁ : List ℕ} → t₁ ≡ with_totals (by_type k (cut net d).frames) m (length d)
            → Gives (push_tallying net s h x o t) (Ok r) h s₁ o₁ (t₁ ++ drop tally_size t)
        unfolding delivered told
        counts u {k} i {t₁} w =
            let fs = front.frames in
            let size : tally_size ≤ length k = omega (arith, ap length i ∙ length-take-le tally_size t passed.long) in
            let number : (j : ℕ) → j < tally_size → get_or k j 0 < 2 ^ 64 = λ j l. rw (i, get_or-take tally_size t j 0 l) (u j) in
            let same : (cut net d).frames ≡ fs = ap (λ (c : Cutting). c.frames) cut_is in
            let long : length d ≡ sizes fs = ap length (g ∙ front.are) ∙ sizes_are net fs in
            let once : t₁ ≡ recount k fs =
            w
            ∙ ap (λ (gs : List Frame). with_totals (by_type k gs) m (length d)) same
            ∙ ap₂ (with_totals (by_type k fs)) (sym front.count) long
            ∙ totals_once fs k size (number frame_total (omega arith)) (number byte_total (omega arith)) front.well_formed in
            let all : t₁ ++ drop tally_size t ≡ recount t (cut net (take b o₁)).frames =
            ap (λ (l : List ℕ). l ++ drop tally_size t) once
            ∙ sym (recount_behind (drop tally_size t) k fs size front.well_formed)
            ∙ ap (λ (l : List ℕ). recount l fs) (joined i)
            ∙ ap (recount t) (sym (ap (λ (l : List ℕ). (cut net l).frames) (sym g) ∙ same)) in
            rw all (rw accepts at whole)
