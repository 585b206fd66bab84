-- When a writer answers what, both directions; and that the length a plan says is the payload's.
use Rattle.std.specs.Prelude.{ℕ, ◌+◌, ◌*◌, ◌/◌, ◌≤◌, ◌<◌, ◌≡◌, List, length, Ok, Err}
use Rattle.hns_refusals.specs.declared.Refusal.{Refusal}
use Rattle.hns_refusals.specs.Limits.{max_payload, block_header_size}
use Rattle.hns_refusals.specs.Refusals.{Answer, payload_too_large, output_short}
use Rattle.hns_encoding.specs.Bytes.{Bytes, choose}
use Rattle.hns_encoding.specs.Compact.{compact_bytes}
use Rattle.hns_encoding.specs.Format.{raw, differences, size, write}
use Rattle.hns_encoding.specs.Put.{splice}
use Rattle.hns_p2p_types.specs.Protocol.{address, addresses, inventory_item, inventory, locator, headers, version, reject, carries_hash, getblocktxn}
use Rattle.hns_p2p_frame.specs.Frame.{Written}
use Rattle.hns_p2p_block_puts.specs.declared.VersionFields.{VersionFields}
use Rattle.hns_p2p_block_puts.specs.Fields.{version_of, reject_of}
use Rattle.hns_p2p_list_puts.specs.Fields.{flat_address, addresses_of, inventory_of, hashes_of, headers_of}
use Rattle.hns_p2p_writer.specs.Writing.{exit, writing}

-- a writer of the bytes x into the output o, after tests of its own
pub data WritingIs (tests : Answer (Unit {0})) (x o : List ℕ) : Written → Type 0 where
  own : {r : Refusal} → tests ≡ Err r → WritingIs tests x o (exit (Err r) o)
  large : tests ≡ Ok tt → max_payload < length x → WritingIs tests x o (exit (Err (payload_too_large (length x))) o)
  short : tests ≡ Ok tt → length x ≤ max_payload → length o < length x → WritingIs tests x o (exit (Err (output_short (length x))) o)
  fits : tests ≡ Ok tt → length x ≤ max_payload → length x ≤ length o → WritingIs tests x o (exit (Ok (length x)) (splice o 0 x))

-- `writing_exactly`, proofs/Conditions.antt
abbrev pub WritingExactly : Type 0
WritingExactly = (tests : Answer (Unit {0})) (x o : List ℕ) (w : Written) → (writing tests x o ≡ w → WritingIs tests x o w) × (WritingIs tests x o w → writing tests x o ≡ w)

-- `plan_lengths`, proofs/Conditions.antt: the numbers of the plans' contracts
pub record PlanLengths : Type 0 where
  pub addr : (s : List ℕ) → Bytes s → (let n = length s / size flat_address in length (compact_bytes n) + n * size address ≡ length (write addresses (addresses_of s)))
  pub inventory_items : (s : List ℕ) → Bytes s → (let n = length s / size inventory_item in length (compact_bytes n) + n * size inventory_item ≡ length (write inventory (inventory_of s)))
  pub headers_whole : (s : List ℕ) → Bytes s → (let n = length s / block_header_size in length (compact_bytes n) + n * block_header_size ≡ length (write headers (headers_of s)))
  pub hashes : (s stop : List ℕ) → Bytes s → length stop ≡ 32 → (let n = length s / size (raw 32) in length (compact_bytes n) + n * size (raw 32) + 32 ≡ length (write locator (hashes_of s, stop)))
  pub indexes : (hash is : List ℕ) → length hash ≡ 32 → 32 + length (compact_bytes (length is)) + length (differences 0 is) ≡ length (write getblocktxn (hash, is))
  pub agent : (v : VersionFields) (agent : List ℕ) → length v.remote.ip ≡ 16 → length v.remote.key ≡ 33 → 122 + length agent ≡ length (write version (version_of v agent))
  pub reason : (t code : ℕ) (reason hash : List ℕ) → length hash ≡ 32 → 3 + length reason + choose (carries_hash t) 32 0 ≡ length (write reject (reject_of t code reason hash))
