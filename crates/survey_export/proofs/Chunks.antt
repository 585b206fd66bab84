-- What a chunk's push puts, and what a step leaves, by what they were answered. Assumes nothing.
use Prim.Native.Nat.{ℕ, ◌≤◌, ◌<◌, ◌^◌}
use mathlib.Core.Path.{◌≡◌, refl, sym, ap, ◌∙◌}
use mathlib.Core.List.{List, []}
use native.Mathlib.Omega.{arith}
use lib.ListN.{length, take}
use borrow.Author.Tests.{le-leb, lt-leb, eq-eqb, ne_eqb}
use Rattle.std.specs.Prelude.{Result, Ok, Err}
use Rattle.hns_refusals.specs.declared.Refusal.{Refusal}
use Rattle.hns_refusals.specs.Refusals.{number}
use Rattle.hns_encoding.specs.Put.{Put, advance}
use Rattle.hns_encoding.proofs.Puts.{then}
use Rattle.hns_p2p_frame.specs.declared.NetworkMagic.TheVariants.{Mainnet}
use Rattle.hns_p2p_frame.specs.declared.Frames.{Frames}
use Rattle.hns_p2p_frame.specs.declared.Pushed as code
use Rattle.hns_p2p_frame.specs.Pushed.{Pushed, Accepted, Refused}
use Rattle.hns_p2p_frame.specs.Answers.{pushed_of}
use Rattle.hns_p2p_frame.specs.Walk.{cut}
use Rattle.hns_p2p_frame.specs.Push.{push}
use Rattle.hns_p2p_frame.proofs.Told.{pushed_accepted, pushed_refused}
use Rattle.survey_export.specs.declared.Kept.{Kept}
use Rattle.survey_export.specs.declared.Step.{Step}
use Rattle.survey_export.specs.Text.{stop_line}
use Rattle.survey_export.specs.Survey.{lines, delivered, held, ends, last_text, added_text, added_by, Chunk, chunk, chunk_size, over, goes_on_at, step_by, take_chunk}
use Rattle.survey_export.specs.Helpers.{push_text, placed_by, PushesChunk, Finishes}

module _ (s : List ℕ) (h : ℕ) (x o t : List ℕ) (q : ℕ) where
  -- r is what the push answered, and s' and o' are what it left
  module _ {r : code.Pushed} {s' o' : List ℕ} (a : r ≡ pushed_of (push Mainnet s h x o).answer) (b : s' ≡ (push Mainnet s h x o).store) (c : o' ≡ (push Mainnet s h x o).output) where
    pub accepted : {f : Frames} → r.delivered ≡ Ok f → {y : List ℕ} → y ≡ take f.bytes o' → {t' : List ℕ} {q' : ℕ} → Put t q (lines (cut Mainnet y).frames) t' q' → PushesChunk s h x o t q (Ok (record { held = r.held; position = q' })) s' o' t'
    unfolding push_text placed_by
    accepted {f} e {y} g put =
        let is : (push Mainnet s h x o).answer ≡ Accepted f.frames f.bytes r.held = pushed_accepted (push Mainnet s h x o).answer a e in
        let front : y ≡ take f.bytes (push Mainnet s h x o).output = g ∙ ap (take f.bytes) c in
        record { answer = rw (is, put.next, front); store = b; output = c; text = rw is (rw front at put.bytes) }

    pub refused : {v : Refusal} {n : ℕ} → r.delivered ≡ Err v → n ≡ number v → {t' : List ℕ} {q' : ℕ} → Put t q (stop_line n) t' q' → PushesChunk s h x o t q (Err q') s' o' t'
    unfolding push_text placed_by
    refused {v} e m put =
        let is : (push Mainnet s h x o).answer ≡ Refused v r.held = pushed_refused (push Mainnet s h x o).answer a e in
        let place : Put t q (stop_line (number v)) _ _ = rw m at put in
        record { answer = rw (is, place.next); store = b; output = c; text = rw is place.bytes }

  -- ---- a step

  -- what the function ensures
  abbrev Met : Step → List ℕ → List ℕ → List ℕ → Type 0
  Met r s' o' t' =
      record { value : r ≡ (take_chunk s h x o t q).answer; store_after : s' ≡ (take_chunk s h x o t q).store; output_after : o' ≡ (take_chunk s h x o t q).output; text_after : t' ≡ (take_chunk s h x o t q).text }

  -- the chunk c puts y
  met : (c : Chunk) → chunk s h x o ≡ c → {y t' : List ℕ} {q' : ℕ} → added_text c.added ≡ y → Put t q y t' q' → {r : Step} → r ≡ step_by c.added q' → Met r c.store c.output t'
  unfolding take_chunk
  met c is e put f = rw (is, e) (record { value = f ∙ ap (step_by c.added) put.next; store_after = refl; output_after = refl; text_after = put.bytes })

  pub log_over : length x ≡ 0 → {r : Step} {t' : List ℕ} → Finishes t h q r t' → Met r s o t'
  unfolding chunk added_text lines last_text step_by
  log_over e f = met (record { added = ends [] (held h); store = s; output = o }) (rw (eq-eqb (length x) 0 e)) refl (record { next = refl; bytes = f.text }) f.answer

  module _ (some : ¬ (length x ≡ 0)) where
    pushes : chunk s h x o ≡ record { added = added_by (length x) (push Mainnet s h x o).answer (push Mainnet s h x o).output; store = (push Mainnet s h x o).store; output = (push Mainnet s h x o).output }
    unfolding chunk
    pushes = rw (ne_eqb (length x) 0 some)

    module _ {p : Result Kept ℕ} {s' o' t' : List ℕ} (c : PushesChunk s h x o t q p s' o' t') where
      -- where the push is answered by a
      by : {a : Pushed} → (push Mainnet s h x o).answer ≡ a → {y t'' : List ℕ} {q'' : ℕ} → added_text (added_by (length x) a (push Mainnet s h x o).output) ≡ y → Put t q y t'' q'' → {r : Step} → r ≡ step_by (added_by (length x) a (push Mainnet s h x o).output) q'' → Met r s' o' t''
      by e f put g = rw (c.store, c.output) (met _ (pushes ∙ rw e) f put g)

      pub stopped : {q' : ℕ} → p ≡ Err q' → Met (over q') s' o' t'
      unfolding added_by added_text lines last_text step_by push_text placed_by
      stopped {q'} e = go (push Mainnet s h x o).answer refl
        where
          go : (a : Pushed) → (push Mainnet s h x o).answer ≡ a → Met (over q') s' o' t'
          go (Refused v g) i = by i refl (record { next = cc (c.answer, i); bytes = rw i at c.text }) refl
          go (Accepted n b g) i = let z : ◌≡◌ {A = ℕ} 0 1 = cc (c.answer, i) in absurd (let w : ⊥ = omega arith in w)

      -- what lines were put, and the answer that they were put for
      pub record Lined (k : Kept) : Type 0 where
        pub n : ℕ
        pub b : ℕ
        pub is : (push Mainnet s h x o).answer ≡ Accepted n b k.held
        pub put : Put t q (lines (delivered b (push Mainnet s h x o).output)) t' k.position

      lined : {k : Kept} → p ≡ Ok k → Lined k
      unfolding push_text placed_by
      lined {k} e = go (push Mainnet s h x o).answer refl
        where
          go : (a : Pushed) → (push Mainnet s h x o).answer ≡ a → Lined k
          go (Refused v g) i = let z : Ok k ≡ placed_by (Refused v g) (advance q (length (push_text (Refused v g) (push Mainnet s h x o).output))) = sym e ∙ rw i at c.answer in cc
          go (Accepted n b g) i =
              let z : Ok k ≡ placed_by (Accepted n b g) (advance q (length (push_text (Accepted n b g) (push Mainnet s h x o).output))) = sym e ∙ rw i at c.answer in
              record { n = n; b = b; is = cc (z, i); put = record { next = cc z; bytes = rw i at c.text } }

      pub ended : {k : Kept} → p ≡ Ok k → length x < chunk_size → length t < 2 ^ 64 → {r : Step} {t'' : List ℕ} → Finishes t' k.held k.position r t'' → Met r s' o' t''
      unfolding added_by added_text last_text step_by
      ended e few room f =
          let l = lined e in
          by l.is (rw (lt-leb chunk_size (length x) few)) (then room l.put (record { next = refl; bytes = f.text })) (rw (lt-leb chunk_size (length x) few) f.answer)

      pub onwards : {k : Kept} → p ≡ Ok k → chunk_size ≤ length x → {r : Step} → r ≡ goes_on_at k.held k.position → Met r s' o' t'
      unfolding added_by added_text step_by
      onwards e full f =
          let l = lined e in
          by l.is (rw (le-leb chunk_size (length x) full)) l.put (rw (le-leb chunk_size (length x) full) f)
