-- A packet that was read, given to its writer: it passes the writer's tests, and is what the writer writes. Assumes nothing.
use Prim.Native.Nat.{ℕ, ◌/◌, ◌%◌, ◌^◌, ◌≤◌, ◌<◌}
use mathlib.Core.Path.{◌≡◌, refl, sym, ap}
use mathlib.Core.Bool.{Bool, true, false}
use mathlib.Core.List.{List, map}
use native.Mathlib.Omega.{arith}
use lib.ListN.{length, length-map}
use borrow.Author.Tests.{le-leb}
use Rattle.std.specs.Prelude.{Ok}
use Rattle.hns_refusals.specs.Limits.{max_payload, max_addresses, max_inventory, max_locator, max_headers, block_header_size}
use Rattle.hns_refusals.specs.Refusals.{Answer, address_field, inventory_field, locator_field, header_field, agent_field}
use Rattle.hns_encoding.specs.Bytes.{choose, Bytes, got, to_end}
use Rattle.hns_encoding.specs.Format.{Format, raw, nothing, whole, Value, read, write, Fit, Fixed, All, size}
use Rattle.hns_encoding.specs.Marks.{marks, mark_all}
use Rattle.hns_encoding.specs.Put.{splice}
use Rattle.hns_encoding.proofs.Forward.{forward}
use Rattle.hns_encoding.proofs.Outcomes.{to_end_got}
use Rattle.hns_encoding.proofs.Rewritten.{rewritten}
use Rattle.hns_header_consensus.specs.Layout.{header}
use Rattle.hns_p2p_types.specs.Protocol.{addresses, inventory_item, inventory, locator, headers, version, reject, getblocktxn, carries_hash}
use Rattle.hns_p2p_types.specs.Packets.{agent_of, reason_of}
use Rattle.hns_refusals.specs.Checks.{first}
use Rattle.hns_p2p_plans.specs.Tests.{within, room, text_tests, hash_test, reject_tests, index_tests}
use Rattle.hns_p2p_plans.proofs.Tests.{within_limit}
use Rattle.hns_p2p_plans.proofs.Indexes.{indexes_pass}
use Rattle.hns_p2p_plans.proofs.Texts.{text_pass}
use Rattle.hns_p2p_block_puts.specs.Fields.{version_of, hash_if, reject_of}
use Rattle.hns_p2p_list_puts.specs.Fields.{flat_address, addresses_of, inventory_of, hashes_of, headers_of, flat_address_of}
use Rattle.hns_p2p_list_puts.proofs.Items.{many_all, flat_back, addresses_back, all_flat}
use Rattle.hns_p2p_writer.specs.Writing.{exit, settle, writing}
use Rattle.hns_p2p_wire.specs.Table.{flat_of, flat_addresses, version_fields, hash_of}

-- a writer's tests pass, and what it writes is v
pub record Given (f : Format) (tests : Answer (Unit {0})) (w v : Value f) : Type 0 where
  pub same : w ≡ v
  pub passed : tests ≡ Ok tt

pub indexes_given : (v : Value getblocktxn) → Fit getblocktxn v → Given getblocktxn (index_tests v.1) (v.0, v.1) v
indexes_given v fit = record { same = refl; passed = indexes_pass v.1 fit.1 }

-- ---- flat lists

flat_passed : (f : Format) → Fixed f → 0 < size f → (limit field : ℕ) (vs : List (Value f)) → length vs ≤ limit → All (Fit f) vs → within (length (flat_of f vs) / size f) limit field ≡ Ok tt
flat_passed f x h limit field vs few g = rw (many_all f x h vs g) (sym (within_limit (length vs) limit field few))

pub addresses_given : (v : Value addresses) → Fit addresses v → Given addresses (within (length (flat_addresses v) / 67) max_addresses address_field) (addresses_of (flat_addresses v)) v
addresses_given v fit =
    let few : length (map flat_address_of v) ≤ 1000 = rw length-map fit.0 in
    record { same = addresses_back v fit.2; passed = flat_passed flat_address _ (omega arith) 1000 1 (map flat_address_of v) few (all_flat v fit.2) }

pub inventory_given : (v : Value inventory) → Fit inventory v → Given inventory (within (length (flat_of inventory_item v) / 36) max_inventory inventory_field) (inventory_of (flat_of inventory_item v)) v
unfolding inventory_of
inventory_given v fit =
    record { same = flat_back inventory_item _ (omega arith) v fit.2; passed = flat_passed inventory_item _ (omega arith) 50000 2 v fit.0 fit.2 }

pub locator_given : (v : Value locator) → Fit locator v → Given locator (within (length (flat_of (raw 32) v.0) / 32) max_locator locator_field) (hashes_of (flat_of (raw 32) v.0), v.1) v
unfolding hashes_of
locator_given v fit =
    record {
      same = ap (λ (h : List (List ℕ)). (h, v.1)) (flat_back (raw 32) _ (omega arith) v.0 fit.0.2);
      passed = flat_passed (raw 32) _ (omega arith) 50000 3 v.0 fit.0.0 fit.0.2;
    }

pub headers_given : (v : Value headers) → Fit headers v → Given headers (within (length (flat_of (whole block_header_size header) v) / block_header_size) max_headers header_field) (headers_of (flat_of (whole block_header_size header) v)) v
unfolding headers_of
headers_given v fit =
    record { same = flat_back (whole block_header_size header) (refl, _) (omega arith) v fit.2; passed = flat_passed (whole block_header_size header) (refl, _) (omega arith) 2000 4 v fit.0 fit.2 }

-- ---- texts

pub version_given : (v : Value version) → Fit version v → Given version (text_tests agent_field (agent_of v)) (version_of (version_fields v) (agent_of v)) v
version_given v fit =
    let low : v.1.0 % 2 ^ 32 ≡ v.1.0 = omega (arith, fit.1.0) in
    let remote : v.1.1.1.1.0.1.0 % 2 ^ 32 ≡ v.1.1.1.1.0.1.0 = omega (arith, fit.1.1.1.1.0.1.0) in
    record { same = rw (low, remote); passed = text_pass 7 _ fit.1.1.1.1.1.1.0 }

hash_same : (b : Bool) (h : Value (choose b (raw 32) nothing)) → hash_if b (hash_of b h) ≡ h
hash_same true h = refl
hash_same false h = refl

hash_passed : (b : Bool) → hash_test b b ≡ Ok tt
unfolding hash_test
hash_passed true = refl
hash_passed false = refl

pub reject_given : (v : Value reject) → Fit reject v
    → Given reject (reject_tests v.0 (reason_of v) (carries_hash v.0)) (reject_of v.0 v.1.0 (reason_of v) (hash_of (carries_hash v.0) v.1.1.1)) v
unfolding reject_tests first
reject_given v fit =
    record {
      same = ap (λ (h : Value (choose (carries_hash v.0) (raw 32) nothing)). (v.0, (v.1.0, (v.1.1.0, h)))) (hash_same (carries_hash v.0) v.1.1.1);
      passed = rw (text_pass 8 v.1.1.0 fit.1.1.0) (hash_passed (carries_hash v.0));
    }

-- ---- every writer

writes : (tests : Answer (Unit {0})) (x o : List ℕ) → tests ≡ Ok tt → length x ≤ max_payload → length x ≤ length o → exit (Ok (length x)) (splice o 0 x) ≡ writing tests x o
unfolding writing settle first room
writes tests x o e h k = rw (e, le-leb _ _ h, le-leb _ _ k)

-- a payload that reads as v, given to its writer, is written as the same bytes with what is not kept set to zero
pub given_again : (f : Format) (s : List ℕ) → Bytes s → (v : Value f) (last : ℕ) → to_end (read f) s ≡ got v last
    → (tests : Answer (Unit {0})) (w : Value f) → (Fit f v → Given f tests w v) → length s ≤ max_payload → (o : List ℕ) → length s ≤ length o
    → exit (Ok (length s)) (splice o 0 (mark_all (marks f s 0) s)) ≡ writing tests (write f w) o
given_again f s bs v last e tests w given h o k =
    let again = rewritten f s bs v last e in
    let g = given (forward f s bs 0 (omega arith) v last (to_end_got (read f) s e).0).fit in
    let x = writes tests (write f v) o g.passed (omega (arith, again.as_long)) (omega (arith, again.as_long)) in
    rw (g.same, ← again.zeroed, ← again.as_long) x
