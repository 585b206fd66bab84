-- A payload without counts reads to its end unless the block of its reads is refused. Assumes nothing.
use Prim.Native.Nat.{ℕ, ◌-◌, ◌≤◌, ◌<◌}
use mathlib.Core.Path.{◌≡◌, ap, ◌∙◌}
use mathlib.Core.List.{List}
use mathlib.Core.Logic.{⊎_elim}
use native.Mathlib.Omega.{arith}
use native.Mathlib.Nat.{zero-add}
use lib.ListN.{length}
use lib.Dec.{leb}
use borrow.Author.Tests.{le-leb, lt-leb, leb-true}
use Rattle.std.specs.Prelude.{Ok, Err}
use Rattle.hns_refusals.specs.declared.Refusal.{Refusal}
use Rattle.hns_refusals.specs.Refusals.{Answer}
use Rattle.hns_encoding.specs.Bytes.{Outcome, got, stop, after, to_end}
use Rattle.hns_encoding.specs.Format.{Format, read, sum, Flat, widths_at, value_at}
use Rattle.hns_encoding.specs.Answers.{finished_of}
use Rattle.hns_encoding.proofs.Numbers.{lt_or_ge}
use Rattle.hns_encoding.proofs.Outcomes.{choose_got, end_got}
use Rattle.hns_encoding.proofs.Blocks.{block}
use Rattle.hns_p2p_blocks.specs.Helpers.{block_end}
use Rattle.hns_p2p_blocks.proofs.Ends.{passed, refused}

-- what ends as a block has used all bytes
block_all : (ws s : List ℕ) {u : Unit {0}} {last : ℕ} → block_end ws s ≡ got u last → sum ws ≡ length s
unfolding block_end
block_all ws s e =
    let g = choose_got (leb (sum ws) (length s)) _ _ e in
    let h = end_got s (sum ws) g.1 in
    omega (arith, leb-true _ _ g.0, h.1)

module _ (f : Format) (x : Flat f) (s : List ℕ) where
  as_block : to_end (read f) s ≡ after (block_end (widths_at f s 0) s) (λ u last. got (value_at f x s 0) last)
  unfolding block_end to_end
  as_block = ⊎_elim ends fits (lt_or_ge (length s) (sum (widths_at f s 0)))
    where
      all : length s - 0 ≡ length s
      all = omega arith

      ends : length s < sum (widths_at f s 0) → to_end (read f) s ≡ after (block_end (widths_at f s 0) s) (λ u last. got (value_at f x s 0) last)
      ends h = rw (lt-leb (sum (widths_at f s 0)) (length s) h, (block f x s 0).1 (omega arith), all)

      fits : sum (widths_at f s 0) ≤ length s → to_end (read f) s ≡ after (block_end (widths_at f s 0) s) (λ u last. got (value_at f x s 0) last)
      fits h = rw (le-leb (sum (widths_at f s 0)) (length s) h, (block f x s 0).0 (omega arith), zero-add (sum (widths_at f s 0)))

  module _ {found : Answer (Unit {0})} (e : found ≡ finished_of (block_end (widths_at f s 0) s)) where
    pub none_read : {r : Refusal} → found ≡ Err r → to_end (read f) s ≡ stop r
    none_read g = rw (as_block, refused (block_end (widths_at f s 0) s) e g)

    pub all_read : {u : Unit {0}} → found ≡ Ok u → (sum (widths_at f s 0) ≡ length s) × ((last : ℕ) × (to_end (read f) s ≡ got (value_at f x s 0) last))
    all_read g =
        let p = passed (block_end (widths_at f s 0) s) e g in
        (block_all (widths_at f s 0) s p.1, (p.0, as_block ∙ ap (λ (o : Outcome (Unit {0})). after o (λ u last. got (value_at f x s 0) last)) p.1))
