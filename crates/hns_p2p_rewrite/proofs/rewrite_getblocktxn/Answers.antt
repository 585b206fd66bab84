use mathlib.Core.Path.{◌≡◌, sym, ◌∙◌}
use lib.Seq.{length-take-le}
use Prim.Native.Nat.{ℕ}
use lib.ListN.{length-replicate}
use borrow.Author.Rules.{rules}
use Rattle.std.specs.Prelude.{Err}
use Rattle.hns_refusals.specs.Limits.{max_indexes}
use Rattle.hns_encoding.specs.Bytes.{Bytes}
use Rattle.hns_encoding.proofs.Numbers.{bytes_known}
use Rattle.hns_p2p_rewrite.proofs.Indexes.{Listed, indexes_refused, indexes_listed}
use Rattle.hns_p2p_rewrite.proofs.rewrite_getblocktxn.Goals as goal
use Rattle.hns_p2p_rewrite.proofs.rewrite_getblocktxn.Goals.{In_ok-n}

-- the index list that was read, and what the writer gives for it
listed : (c : In_ok-n) → Listed c.args.payload.now c.args.out.now c.in_ok-n.n c.indexes.new.out
listed c =
    let z = c.args in
    let bytes : Bytes z.payload.now = bytes_known _ (λ i. (c.type_inv.payload i).fits) in
    indexes_listed z.payload.now bytes _ (length-replicate {A = ℕ} max_indexes 0) z.out.now c.indexes.ensures.value c.in_ok-n.was c.indexes.ensures.out_after

pub slice_bounds-indexes-end-3 : goal.slice_bounds-indexes-end-3
slice_bounds-indexes-end-3 c = (listed (goal.at.slice_bounds-indexes-end-3 c).In_ok-n).inside

pub slice_bounds-write_getblocktxn-end : goal.slice_bounds-write_getblocktxn-end
slice_bounds-write_getblocktxn-end c = sym (length-take-le _ c.indexes.new.out (listed (goal.at.slice_bounds-write_getblocktxn-end c).In_ok-n).inside)

pub returns-in_err-n : goal.returns-in_err-n
returns-in_err-n c =
    let z = c.args in
    let bytes : Bytes z.payload.now = bytes_known _ (λ i. (c.type_inv.payload i).fits) in
    let told : c.from_residual.result ≡ Err c.in_err-n.field-0.0 = search rules in
    rw told (indexes_refused z.payload.now bytes _ (length-replicate {A = ℕ} max_indexes 0) z.out.now c.indexes.ensures.value c.in_err-n.was)

pub returns : goal.returns
returns c = rw c.array_at-hash.ensures at c.write_getblocktxn.ensures ∙ (listed (goal.at.returns c).In_ok-n).gives
