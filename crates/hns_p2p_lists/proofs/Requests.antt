-- The packet of a getblocktxn: a hash, a count and as many differences. Assumes nothing.
use Prim.Native.Nat.{ℕ, zero, suc, ◌+◌}
use mathlib.Core.Path.{◌≡◌, sym, ap, ◌∙◌}
use mathlib.Core.List.{List, [], ◌∷◌}
use lib.ListN.{length}
use lib.Dec.{leb}
use Rattle.std.specs.Prelude.{Ok, Err}
use Rattle.hns_encoding.specs.declared.Slice.{Slice}
use Rattle.hns_refusals.specs.declared.Refusal.{Refusal}
use Rattle.hns_refusals.specs.Limits.{max_indexes, max_index}
use Rattle.hns_refusals.specs.Refusals.{Answer, index_field, index_count_field}
use Rattle.hns_encoding.specs.Bytes.{Bytes, Outcome, got, stop, bytes_at, end_at, to_end}
use Rattle.hns_encoding.specs.Compact.{compact_bytes, count_at}
use Rattle.hns_encoding.specs.Format.{read, indexes_from}
use Rattle.hns_encoding.specs.Answers.{result_of, range_of, finished_of}
use Rattle.hns_encoding.proofs.Outcomes.{after_got, choose_got}
use Rattle.hns_encoding.proofs.Reading.{value_read, refusal_read}
use Rattle.hns_p2p_types.specs.declared.Packet.TheVariants as P
use Rattle.hns_p2p_types.specs.Packets.{row, rows, fields_of}
use Rattle.hns_p2p_differences.specs.declared.Passed.{Passed}
use Rattle.hns_p2p_differences.specs.Passing.{last_of, passed_of}
use Rattle.hns_p2p_lists.proofs.Listed.{count_place, range_read, refused_range, range_start, end_read, end_refused}

one_more : {i n : ℕ} {is js : List ℕ} → i ∷ is ≡ js → length is ≡ n → length js ≡ suc n
one_more e h = ap length (sym e) ∙ ap suc h

-- an index list that is passed has as many indexes as its count says
pub index_count : (n base : ℕ) (s : List ℕ) (p : ℕ) {is : List ℕ} {last : ℕ} → indexes_from n base s p ≡ got is last → length is ≡ n
index_count zero base s p {is} e = let none : [] ≡ is = cc in ap length (sym none)
index_count (suc n) base s p {is} e =
    let g = after_got (count_at max_index index_field s p) _ e in
    let h = choose_got (leb (base + g.0) max_index) _ _ g.3 in
    let k = after_got (indexes_from n (base + g.0 + 1) s g.1) _ h.1 in
    one_more {i = base + g.0} {is = k.0} {js = is} (cc k.3) (index_count n (base + g.0 + 1) s g.1 k.2)

passed_to : (o : Outcome (List ℕ)) {passed : Answer Passed} {to : Passed} → passed ≡ passed_of o → passed ≡ Ok to → (is : List ℕ) × (o ≡ got is to.next)
unfolding passed_of
passed_to (got is end) {to = to} e g = let same : to ≡ record { next = end; last = last_of 0 is } = cc in (is, ap (λ (t : Passed). got is t.next) (sym same))
passed_to (stop r) e g = cc

passed_refused : (o : Outcome (List ℕ)) {passed : Answer Passed} {r : Refusal} → passed ≡ passed_of o → passed ≡ Err r → o ≡ stop r
unfolding passed_of
passed_refused (got is last) e g = cc
passed_refused (stop q) e g = cc

module _ (s : List ℕ) {hash : Answer Slice} (e : hash ≡ range_of (bytes_at 32 s 0)) where
  pub txn_short : {r : Refusal} → hash ≡ Err r → Err r ≡ fields_of 24 s
  unfolding fields_of row rows to_end read
  txn_short g = rw (refused_range (bytes_at 32 s 0) e g)

  module _ {x : Slice} (g : hash ≡ Ok x) {count : Answer (ℕ × ℕ)} (f : count ≡ result_of (count_at max_indexes index_count_field s x.end)) where
    pub txn_count : {r : Refusal} → count ≡ Err r → Err r ≡ fields_of 24 s
    unfolding fields_of row rows to_end read
    txn_count h = rw ((range_read (bytes_at 32 s 0) e g).1, refusal_read (count_at max_indexes index_count_field s x.end) f h)

    module _ {n first : ℕ} (h : count ≡ Ok (n, first)) {passed : Answer Passed} (i : passed ≡ passed_of (indexes_from n 0 s first)) where
      pub txn_index : {r : Refusal} → passed ≡ Err r → Err r ≡ fields_of 24 s
      unfolding fields_of row rows to_end read
      txn_index k = rw ((range_read (bytes_at 32 s 0) e g).1, value_read (count_at max_indexes index_count_field s x.end) f h, passed_refused (indexes_from n 0 s first) i k)

      module _ {to : Passed} (k : passed ≡ Ok to) {end : Answer (Unit {0})} (j : end ≡ finished_of (end_at s to.next)) where
        pub txn_left : {r : Refusal} → end ≡ Err r → Err r ≡ fields_of 24 s
        unfolding fields_of row rows to_end read
        txn_left l = rw ((range_read (bytes_at 32 s 0) e g).1, value_read (count_at max_indexes index_count_field s x.end) f h, (passed_to (indexes_from n 0 s first) i k).1, end_refused (end_at s to.next) j l)

        pub txn_read : Bytes s → {u : Unit {0}} → end ≡ Ok u → Ok (P.GetBlockTxn (record { block_hash = x.start; indexes = record { count = n; first = first } })) ≡ fields_of 24 s
        unfolding fields_of row rows to_end read
        txn_read bs l =
            let at = range_start 32 s 0 e g in
            let known = value_read (count_at max_indexes index_count_field s x.end) f h in
            let is = passed_to (indexes_from n 0 s first) i k in
            let end : x.end ≡ 32 = at.1 in
            let place : first ≡ 32 + length (compact_bytes n) = count_place s bs max_indexes index_count_field x.end known ∙ rw end in
            let long = index_count n 0 s first is.1 in
            rw ((range_read (bytes_at 32 s 0) e g).1, known, is.1, (end_read (end_at s to.next) j l).1, long, ← place, at.0)
