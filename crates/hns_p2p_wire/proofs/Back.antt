-- What a writer wrote reads back. Assumes nothing.
use Prim.Native.Nat.{ℕ, suc, ◌-◌, ◌/◌, ◌%◌, ◌^◌, ◌≤◌, ◌<◌}
use mathlib.Core.Path.{◌≡◌, refl, ap}
use mathlib.Core.Bool.{Bool, true, false}
use mathlib.Core.List.{List}
use native.Mathlib.Omega.{arith}
use native.Mathlib.Nat.{div-mul-le_self}
use lib.ListN.{length}
use lib.Dec.{leb}
use lib.IntN.{ℤ, pos, negsuc}
use mir.Syntax.{w64}
use mir.Val.{SFits}
use borrow.Author.Tests.{leb-true, lt-ltb, le-ltb}
use Rattle.std.specs.Prelude.{Ok, Err}
use Rattle.hns_refusals.specs.Limits.{max_payload, max_addresses, max_locator}
use Rattle.hns_refusals.specs.Refusals.{Answer, address_field, locator_field, agent_field, reason_field}
use Rattle.hns_encoding.specs.Bytes.{choose, got, to_end}
use Rattle.hns_encoding.specs.Format.{Format, raw, nothing, Value, read, write, Fit, size}
use Rattle.hns_encoding.specs.Put.{splice}
use Rattle.hns_encoding.proofs.Back.{back, to_end_back}
use Rattle.hns_encoding.proofs.Blocks.{length_values}
use Rattle.hns_p2p_types.specs.Protocol.{address, version, feefilter, carries_hash}
use Rattle.hns_p2p_types.specs.Packets.{signed, signed_bits}
use Rattle.hns_p2p_frame.specs.Frame.{Written}
use Rattle.hns_refusals.specs.Checks.{first}
use Rattle.hns_p2p_plans.specs.Tests.{room, text_tests, reject_tests}
use Rattle.hns_p2p_plans.proofs.Tests.{choose_passed, first_passed, within_passed}
use Rattle.hns_p2p_plans.proofs.Indexes.{indexes_fit}
use Rattle.hns_p2p_plans.proofs.Texts.{text_fit}
use Rattle.hns_p2p_block_puts.specs.declared.AddressFields.{AddressFields}
use Rattle.hns_p2p_block_puts.specs.Fields.{address_of, version_of, hash_if}
use Rattle.hns_p2p_list_puts.specs.Fields.{flat, low_services, hashes_of}
use Rattle.hns_p2p_list_puts.proofs.Items.{items_fit, many_addresses, addresses_all}
use Rattle.hns_p2p_writer.specs.Writing.{exit, settle, writing}
use Rattle.hns_p2p_wire.specs.Back.{AddressHeld, TestedFits, RateBack, Iff, WriterReadsBack, Services, WrittenBack}
use Rattle.hns_p2p_wire.proofs.Demand3.{front_is}

-- ---- an accepted call

record Filled (x o o' : List ℕ) (n : ℕ) : Type 0 where
  many : n ≡ length x
  front : o' ≡ splice o 0 x
  room_there : length x ≤ length o

settle_filled : (k : Answer (Unit {0})) (x o : List ℕ) {o' : List ℕ} {n : ℕ} → exit (Ok n) o' ≡ settle k x o → (k ≡ Ok tt) × (n ≡ length x) × (o' ≡ splice o 0 x)
unfolding settle
settle_filled (Ok u) x o e =
    let a = ap (λ (w : Written). w.answer) e in
    let b = ap (λ (w : Written). w.output) e in
    (refl, cc, b)
settle_filled (Err r) x o e = let a = ap (λ (w : Written). w.answer) e in cc

filled : (tests : Answer (Unit {0})) (x o : List ℕ) {o' : List ℕ} {n : ℕ} → exit (Ok n) o' ≡ writing tests x o → Filled x o o' n
unfolding writing room
filled tests x o e =
    let s = settle_filled (first tests (room (length x) (length o))) x o e in
    let a = choose_passed (leb (length x) max_payload) _ _ (first_passed tests (room (length x) (length o)) s.0).1 in
    let b = choose_passed (leb (length x) (length o)) _ _ a.1 in
    record { many = s.1; front = s.2; room_there = leb-true _ _ b.0 }

reads_back : WriterReadsBack
reads_back f v fit tests o o' n e =
    let w = filled tests (write f v) o e in
    rw (w.front, w.many, front_is (write f v) o w.room_there) (to_end_back (read f) (write f v) (back f v fit))

-- ---- what the tests pass

address_fit : (a : AddressFields) → AddressHeld a → Fit address (address_of a)
address_fit a h = (h.time, (omega arith, (tt, (h.ip, (h.port, h.key)))))

hash_fit : (b : Bool) (hash : List ℕ) → length hash ≡ 32 → Fit (choose b (raw 32) nothing) (hash_if b hash)
hash_fit true hash h = h
hash_fit false hash h = tt

bits_fit : (rate : ℤ) → SFits w64 rate → Fit feefilter (signed_bits rate)
unfolding signed_bits
bits_fit (pos n) h = omega (arith, h.sfits)
bits_fit (negsuc k) h = omega arith

tested : TestedFits
unfolding reject_tests flat hashes_of
tested =
    record {
      version = λ v agent h e. (h.version, (omega arith, (tt, (h.time, (address_fit v.remote h.remote, (h.nonce, (text_fit agent_field agent e, (h.height, tt))))))));
      reject = λ t code reason present hash a b h e. (a, (omega arith, (text_fit reason_field reason (first_passed (text_tests reason_field reason) _ e).0, hash_fit (carries_hash t) hash h)));
      addr = λ s bs e.
          let few = within_passed (length s / 67) max_addresses address_field e in
          (rw (many_addresses s) few, rw (many_addresses s) (omega arith), addresses_all s bs);
      lists = λ f x s bs limit field h e.
          let many = length_values f x (length s / size f) s 0 in
          let few = within_passed (length s / size f) limit field e in
          (rw many few, rw many (omega arith), items_fit f x s bs (length s / size f) 0 (omega (arith, div-mul-le_self (length s) (size f))));
      locator = λ s stop bs h e.
          let many = length_values (raw 32) _ (length s / size (raw 32)) s 0 in
          let few = within_passed (length s / size (raw 32)) max_locator locator_field e in
          ((rw many few, rw many (omega arith), items_fit (raw 32) _ s bs (length s / size (raw 32)) 0 (omega (arith, div-mul-le_self (length s) (size (raw 32))))), h);
      getblocktxn = λ hash is h e. (h, indexes_fit is e);
      nonce = λ v h. h;
      feefilter = bits_fit;
      sendcmpct = λ mode v a b. (omega arith, b);
      getproof = λ root key a b. (a, b);
      raw_bytes_fit = λ s. refl;
    }

rate_back : RateBack
unfolding signed signed_bits
rate_back (pos n) h = rw (lt-ltb n (2 ^ 63) h.sfits)
rate_back (negsuc k) h =
    let high = le-ltb (2 ^ 64 - suc k) (2 ^ 63) (omega (arith, h.sfits)) in
    let back : 2 ^ 64 - (2 ^ 64 - suc k) ≡ suc k = omega (arith, h.sfits) in
    rw (high, back)

-- ---- services

-- the low 32 bits are the number exactly below 2^32
low_bits : (n m : ℕ) → m ≡ n % 2 ^ 32 → Iff (m ≡ n) (n < 2 ^ 32)
low_bits n m e = (λ q. omega (arith, q, e), λ h. omega (arith, h, e))

same_value : (f : Format) (w : Value f) → Fit f w → (v : Value f) (last : ℕ) → to_end (read f) (write f w) ≡ got v last → v ≡ w
same_value f w fit v last e = let b = to_end_back (read f) (write f w) (back f w fit) in cc (e, b)

services : Services
services =
    record {
      of_version = λ f agent fit v last e. low_bits f.services v.1.0 (ap (λ (w : Value version). w.1.0) (same_value version (version_of f agent) fit v last e));
      of_remote = λ f agent fit v last e. low_bits f.remote.services v.1.1.1.1.0.1.0 (ap (λ (w : Value version). w.1.1.1.1.0.1.0) (same_value version (version_of f agent) fit v last e));
      of_address = λ a fit v last e. low_bits a.services v.1.0 (ap (λ (w : Value address). w.1.0) (same_value address (address_of a) fit v last e));
      of_item = λ x fit v last e. low_bits x.1.0 v.1.0 (ap (λ (w : Value address). w.1.0) (same_value address (low_services x) fit v last e));
    }

pub written_back : WrittenBack
written_back = record { reads_back = reads_back; tested = tested; rate_back = rate_back; services = services }
