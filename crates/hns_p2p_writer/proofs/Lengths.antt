-- How long each payload is, by its fields. Assumes nothing.
use Prim.Native.Nat.{ℕ, ◌+◌, ◌*◌, ◌/◌}
use mathlib.Core.Path.{◌≡◌, refl, sym}
use mathlib.Core.Bool.{Bool, true, false}
use mathlib.Core.List.{List, [], ◌∷◌, ◌++◌}
use native.Mathlib.Omega.{arith}
use lib.ListN.{length, get_or, take, length-append}
use lib.Seq.{take_all}
use mir.Syntax.{w8}
use mir.Val.{Fits}
use Rattle.hns_encoding.specs.Bytes.{le_bytes, Bytes, choose}
use Rattle.hns_encoding.specs.Compact.{compact_bytes}
use Rattle.hns_encoding.specs.Format.{raw, nothing, differences, write}
use Rattle.hns_encoding.proofs.Numbers.{length_le_bytes, bytes_known}
use Rattle.hns_encoding.proofs.Puts.{put_none}
use Rattle.hns_p2p_types.specs.Protocol.{empty, addresses, inventory, locator, headers, version, reject, carries_hash, sendcmpct, getblocktxn, getproof}
use Rattle.std.specs.Prelude.{Ok, Err, is_some}
use Rattle.std.specs.Option.{unwrap_or}
use Rattle.std.specs.Bool.{then_some}
use Rattle.hns_refusals.specs.Checks.{first}
use Rattle.hns_refusals.specs.Refusals.{Answer}
use Rattle.hns_encoding.specs.Put.{splice}
use Rattle.hns_p2p_plans.specs.Tests.{planned, text_tests, hash_test, reject_tests}
use Rattle.hns_p2p_plans.proofs.Tests.{has_room, plan_passed}
use Rattle.hns_p2p_plans.proofs.Texts.{text_fit, reject_short}
use Rattle.hns_p2p_block_puts.specs.declared.VersionFields.{VersionFields}
use Rattle.hns_p2p_block_puts.specs.Fields.{version_of, hash_if, reject_of}
use Rattle.hns_p2p_list_puts.specs.Fields.{addresses_of, inventory_of, hashes_of, headers_of}
use Rattle.hns_p2p_list_puts.proofs.Items as items
use Rattle.hns_p2p_list_puts.proofs.Items.{length_copied, inventory_copied, locator_copied, headers_copied}
use Rattle.hns_p2p_writer.specs.Writing.{exit, settle, writing}
use Rattle.hns_p2p_writer.specs.Writers.{gives_reject}
use Rattle.hns_p2p_writer.proofs.Writing.{written}

-- ---- fixed fields

pub length_num : (n v : ℕ) → n ≡ length (le_bytes n v)
length_num n v = sym (length_le_bytes n v)

pub length_sendcmpct : (mode version : ℕ) → 9 ≡ length (write sendcmpct (mode, version))
unfolding write
length_sendcmpct mode version = simp (length-append, length_le_bytes)

pub length_getproof : (root key : List ℕ) → length root ≡ 32 → length key ≡ 32 → 64 ≡ length (write getproof (root, key))
unfolding write
length_getproof root key h k = simp (length-append, h, k)

pub empty_written : (o : List ℕ) → exit (Ok 0) o ≡ writing (Ok tt) (write empty tt) o
unfolding write
empty_written o = written (Ok tt) [] o (has_room 0 (length o) (omega arith) (omega arith)) refl refl (put_none o 0 (omega arith)).bytes refl

-- ---- lists

-- what a slice of bytes is
pub bytes_fit : (s : List ℕ) → ((i : ℕ) → Fits w8 (get_or s i 0)) → Bytes s
bytes_fit s fits = bytes_known s (λ i. (fits i).fits)

module _ (s : List ℕ) (bs : Bytes s) where
  pub length_addr : length (compact_bytes (length s / 67)) + length s / 67 * 88 ≡ length (write addresses (addresses_of s))
  length_addr = omega (arith, items.length_addresses s bs)

  pub length_inventory : length (compact_bytes (length s / 36)) + length s / 36 * 36 ≡ length (write inventory (inventory_of s))
  length_inventory = rw (inventory_copied s bs) (omega (arith, length_copied s 36 []))

  pub length_headers : length (compact_bytes (length s / 236)) + length s / 236 * 236 ≡ length (write headers (headers_of s))
  length_headers = rw (headers_copied s bs) (omega (arith, length_copied s 236 []))

  pub length_locator : (stop : List ℕ) → length stop ≡ 32 → length (compact_bytes (length s / 32)) + length s / 32 * 32 + 32 ≡ length (write locator (hashes_of s, stop))
  length_locator stop h = rw (locator_copied s bs stop) (omega (arith, h, length_copied s 32 stop))

pub length_indexes : (hash is : List ℕ) → length hash ≡ 32 → 32 + length (compact_bytes (length is)) + length (differences 0 is) ≡ length (write getblocktxn (hash, is))
unfolding write
length_indexes hash is h = simp length-append (omega (arith, h))

-- ---- texts

pub length_version : (v : VersionFields) (agent : List ℕ) → length v.remote.ip ≡ 16 → length v.remote.key ≡ 33 → 122 + length agent ≡ length (write version (version_of v agent))
unfolding write
length_version v agent h k = simp (length-append, length_le_bytes, h, k) (omega arith)

length_hash : (b : Bool) (hash : List ℕ) → length hash ≡ 32 → length (write (choose b (raw 32) nothing) (hash_if b hash)) ≡ choose b 32 0
unfolding write
length_hash true hash h = h
length_hash false hash h = refl

pub length_reject : (t code : ℕ) (reason hash : List ℕ) → length hash ≡ 32 → 3 + length reason + choose (carries_hash t) 32 0 ≡ length (write reject (reject_of t code reason hash))
unfolding write
length_reject t code reason hash h = simp (length-append, length_le_bytes) (omega (arith, length_hash (carries_hash t) hash h))

-- a text that the plan's tests let pass is put whole
module _ (v : VersionFields) (agent o : List ℕ) {plan : Answer ℕ} (e : plan ≡ planned (text_tests 7 agent) (122 + length agent) (length o)) {m : ℕ} (q : plan ≡ Ok m) where
  pub version_written : length v.remote.ip ≡ 16 → length v.remote.key ≡ 33 → {p : ℕ} → p ≡ 0 → {o' : List ℕ} → o' ≡ splice o p (write version (version_of v (take 255 agent))) → exit (Ok m) o' ≡ writing (text_tests 7 agent) (write version (version_of v agent)) o
  version_written h k z put =
      let all = take_all 255 agent (text_fit 7 agent (plan_passed _ _ _ e q)).0 in
      written _ _ _ e q z (rw all at put) (length_version v agent h k)

module _ (t code : ℕ) (reason hash : List ℕ) (present : Bool) (o : List ℕ) {plan : Answer ℕ} (e : plan ≡ planned (reject_tests t reason present) (3 + length reason + choose (carries_hash t) 32 0) (length o)) {m : ℕ} (q : plan ≡ Ok m) where
  pub reject_written : length hash ≡ 32 → {p : ℕ} → p ≡ 0 → {o' : List ℕ} → o' ≡ splice o p (write reject (reject_of t code (take 255 reason) hash)) → exit (Ok m) o' ≡ writing (reject_tests t reason present) (write reject (reject_of t code reason hash)) o
  reject_written h z put =
      let all = take_all 255 reason (reject_short t reason present (plan_passed _ _ _ e q)) in
      written _ _ _ e q z (rw all at put) (length_reject t code reason hash h)

-- a hash that the flag says is not there counts for nothing: the tests refuse, or no hash is written
absent_by : (carries : Bool) (text : Answer (Unit {0})) (k : List ℕ → List ℕ) (h z o : List ℕ)
    → (let x = λ (y : List ℕ). k (write (choose carries (raw 32) nothing) (hash_if carries y)) in writing (first text (hash_test carries false)) (x z) o ≡ writing (first text (hash_test carries false)) (x h) o)
unfolding writing settle first hash_test write
absent_by false text k h z o = refl
absent_by true (Ok u) k h z o = refl
absent_by true (Err r) k h z o = refl

absent : (t code : ℕ) (reason : List ℕ) (h z o : List ℕ) → gives_reject t code reason false z o ≡ gives_reject t code reason false h o
unfolding reject_tests write le_bytes carries_hash
absent t code reason h z o = absent_by (carries_hash t) (text_tests 8 reason) (λ (y : List ℕ). t ∷ (le_bytes 1 code ++ (length reason ∷ reason) ++ y)) h z o

pub flag_given : (t code : ℕ) (reason : List ℕ) (present : Bool) (h z o : List ℕ) → gives_reject t code reason (is_some (then_some present h)) (unwrap_or (then_some present h) z) o ≡ gives_reject t code reason present h o
flag_given t code reason true h z o = refl
flag_given t code reason false h z o = absent t code reason h z o
