-- The indexes of a request, listed and given to the writer. Assumes nothing.
use Prim.Native.Nat.{ℕ, ◌≤◌}
use mathlib.Core.Path.{◌≡◌, refl, sym, ap, ◌∙◌}
use mathlib.Core.List.{List, []}
use native.Mathlib.Omega.{arith}
use lib.ListN.{length, get_or, take}
use borrow.Author.Tests.{le-leb}
use Rattle.std.specs.Prelude.{Result, Ok, Err}
use Rattle.hns_refusals.specs.declared.Refusal.{Refusal}
use Rattle.hns_refusals.specs.Limits.{max_indexes}
use Rattle.hns_encoding.specs.Bytes.{Bytes, Outcome, got, stop, raw_at}
use Rattle.hns_encoding.specs.Format.{Value}
use Rattle.hns_encoding.proofs.Puts.{length_splice}
use Rattle.hns_p2p_types.proofs.Payloads.{by_got}
use Rattle.hns_p2p_types.specs.Protocol.{getblocktxn, always, read_by}
use Rattle.hns_p2p_types.specs.Packets.{rows, row}
use Rattle.hns_p2p_rights.specs.Terms.{terms_of}
use Rattle.hns_p2p_rights.proofs.Masks.{full}
use Rattle.hns_p2p_admission.proofs.Admitted.{readings}
use Rattle.hns_p2p_laws.specs.Places.{raw_places, columns, parts_of}
use Rattle.hns_p2p_laws.proofs.Places.{places_stand}
use Rattle.hns_p2p_indexes.specs.Indexes.{Answer, stored_by, request_under, stored_under}
use Rattle.hns_p2p_writer.specs.Writing.{exit}
use Rattle.hns_p2p_writer.specs.Writers.{gives_get_block_txn}
use Rattle.hns_p2p_wire.specs.Demand3.{rewriting}
use Rattle.hns_p2p_wire.proofs.Demand3.{front_is}
use Rattle.hns_p2p_rewrite.proofs.As.{fit_of, raw_is, txn_said}

-- if no terms are lent, nothing is turned away
stored_plainly : (s z : List ℕ) → stored_under (terms_of []) s z ≡ stored_by (read_by (always getblocktxn) s) z
unfolding stored_under request_under row rows
stored_plainly s z = ap (λ (q : Outcome (Value getblocktxn)). stored_by q z) (readings.full (terms_of []) full.no_numbers 24 s)

-- the indexes stand at the front of what the call filled, and the writer gives for them what it gives for what was read
pub record Listed (s o : List ℕ) (n : ℕ) (z : List ℕ) : Type 0 where
  pub inside : n ≤ length z
  pub gives : gives_get_block_txn (raw_at 32 s 0) (take n z) o ≡ rewriting 24 s o

module _ (s : List ℕ) (bs : Bytes s) (z : List ℕ) (room : length z ≡ max_indexes) (o : List ℕ) where
  few_read : (v : Value getblocktxn) (last : ℕ) → read_by (always getblocktxn) s ≡ got v last → length v.1 ≤ length z
  few_read v last e = omega (arith, room, (fit_of getblocktxn s bs v last (by_got (always getblocktxn) s e).1).1.0)

  hash_read : (v : Value getblocktxn) (last : ℕ) → read_by (always getblocktxn) s ≡ got v last → raw_at 32 s 0 ≡ v.0
  unfolding row rows raw_places columns parts_of
  hash_read v last e =
      raw_is 32 s 0 (ap (λ (l : List (List ℕ)). get_or l 0 []) (places_stand 24 s v last e).bytes) (fit_of getblocktxn s bs v last (by_got (always getblocktxn) s e).1).0

  refused_by : (u : Outcome (Value getblocktxn)) → read_by (always getblocktxn) s ≡ u → {r : Refusal} → (stored_by u z).answer ≡ Err r → exit (Err r) o ≡ rewriting 24 s o
  unfolding rewriting row rows
  refused_by (stop r) e q = rw e (ap (λ (k : Refusal). exit (Err k) o) cc)
  refused_by (got v last) e q =
      let full = rw (le-leb (length v.1) (length z) (few_read v last e)) at q in
      cc

  pub indexes_refused : {a : Result ℕ Refusal} {r : Refusal} → a ≡ (stored_under (terms_of []) s z).answer → a ≡ Err r → exit (Err r) o ≡ rewriting 24 s o
  indexes_refused e q = refused_by (read_by (always getblocktxn) s) refl (sym (e ∙ ap (λ (x : Answer). x.answer) (stored_plainly s z)) ∙ q)

  listed_by : (u : Outcome (Value getblocktxn)) → read_by (always getblocktxn) s ≡ u → {n : ℕ} {z' : List ℕ} → (stored_by u z).answer ≡ Ok n → z' ≡ (stored_by u z).output → Listed s o n z'
  listed_by (stop r) e q f = cc
  listed_by (got v last) e {n} q f =
      let few = few_read v last e in
      let test = le-leb (length v.1) (length z) few in
      let many : length v.1 ≡ n = cc (rw test at q) in
      let filled = rw test at f in
      let g = by_got (always getblocktxn) s e in
      record { inside = omega (arith, many, few, ap length filled, length_splice z 0 v.1); gives = rw (← many, filled, front_is v.1 z few, hash_read v last e) (sym (txn_said s g.0 v last g.1 o)) }

  pub indexes_listed : {a : Result ℕ Refusal} {n : ℕ} {z' : List ℕ} → a ≡ (stored_under (terms_of []) s z).answer → a ≡ Ok n → z' ≡ (stored_under (terms_of []) s z).output → Listed s o n z'
  indexes_listed e q f =
      let as_plain = stored_plainly s z in
      listed_by (read_by (always getblocktxn) s) refl (sym (e ∙ ap (λ (x : Answer). x.answer) as_plain) ∙ q) (f ∙ ap (λ (x : Answer). x.output) as_plain)
