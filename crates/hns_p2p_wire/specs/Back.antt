-- What an accepted call wrote reads back as what the writer was given; of services the low 32 bits.
use Rattle.std.specs.Prelude.{ℕ, ◌/◌, ◌^◌, ◌<◌, ◌≡◌, Bool, List, ℤ, length, take, Ok}
use Rattle.std.specs.Int.{w64}
use Rattle.std.proofs.Common.{SFits}
use Rattle.hns_refusals.specs.Limits.{max_addresses, max_locator}
use Rattle.hns_refusals.specs.Refusals.{Answer, address_field, locator_field, agent_field}
use Rattle.hns_encoding.specs.Bytes.{Bytes, got, to_end}
use Rattle.hns_encoding.specs.Format.{Format, raw, counted, Value, read, write, Fit, Fixed, size}
use Rattle.hns_p2p_types.specs.Protocol.{address, addresses, nonce, locator, version, reject, feefilter, sendcmpct, getblocktxn, getproof}
use Rattle.hns_p2p_types.specs.Packets.{signed, signed_bits}
use Rattle.hns_p2p_plans.specs.Tests.{within, text_tests, reject_tests, index_tests}
use Rattle.hns_p2p_block_puts.specs.declared.AddressFields.{AddressFields}
use Rattle.hns_p2p_block_puts.specs.declared.VersionFields.{VersionFields}
use Rattle.hns_p2p_block_puts.specs.Fields.{address_of, version_of, reject_of}
use Rattle.hns_p2p_list_puts.specs.Fields.{flat, flat_address, low_services, addresses_of, hashes_of}
use Rattle.hns_p2p_writer.specs.Writing.{exit, writing}

-- every writer: where it answers n, the output's first n bytes read as the value that it wrote
abbrev pub WriterReadsBack : Type 0
WriterReadsBack =
    (f : Format) (v : Value f) → Fit f v → (tests : Answer (Unit {0})) (o o' : List ℕ) (n : ℕ)
    → exit (Ok n) o' ≡ writing tests (write f v) o → to_end (read f) (take n o') ≡ got v n

-- ---- what the tests pass can be written

-- what the code's types say of the fields
pub record AddressHeld (a : AddressFields) : Type 0 where
  pub time : a.time < 2 ^ 64
  pub ip : length a.ip ≡ 16
  pub port : a.port < 2 ^ 16
  pub key : length a.key ≡ 33

pub record VersionHeld (v : VersionFields) : Type 0 where
  pub version : v.version < 2 ^ 32
  pub time : v.time < 2 ^ 64
  pub remote : AddressHeld v.remote
  pub nonce : v.nonce < 2 ^ 64
  pub height : v.height < 2 ^ 32

pub record TestedFits : Type 0 where
  pub version : (v : VersionFields) (agent : List ℕ) → VersionHeld v → text_tests agent_field agent ≡ Ok tt → Fit version (version_of v agent)
  pub reject :
      (t code : ℕ) (reason : List ℕ) (present : Bool) (hash : List ℕ) → t < 256 → code < 256 → length hash ≡ 32
      → reject_tests t reason present ≡ Ok tt → Fit reject (reject_of t code reason hash)
  pub addr : (s : List ℕ) → Bytes s → within (length s / 67) max_addresses address_field ≡ Ok tt → Fit addresses (addresses_of s)
  -- inventory, hashes and headers
  pub lists :
      (f : Format) (x : Fixed f) (s : List ℕ) → Bytes s → (limit field : ℕ) → limit < 2 ^ 64
      → within (length s / size f) limit field ≡ Ok tt → Fit (counted limit field f) (flat f x s)
  pub locator :
      (s stop : List ℕ) → Bytes s → length stop ≡ 32 → within (length s / size (raw 32)) max_locator locator_field ≡ Ok tt
      → Fit locator (hashes_of s, stop)
  pub getblocktxn : (hash is : List ℕ) → length hash ≡ 32 → index_tests is ≡ Ok tt → Fit getblocktxn (hash, is)
  -- writers without tests of their own
  pub nonce : (v : ℕ) → v < 2 ^ 64 → Fit nonce v
  pub feefilter : (rate : ℤ) → SFits w64 rate → Fit feefilter (signed_bits rate)
  pub sendcmpct : (mode v : ℕ) → mode < 256 → v < 2 ^ 64 → Fit sendcmpct (mode, v)
  pub getproof : (root key : List ℕ) → length root ≡ 32 → length key ≡ 32 → Fit getproof (root, key)
  pub raw_bytes_fit : (s : List ℕ) → Fit (raw (length s)) s

-- a rate of 64 bits reads back from its bits
abbrev pub RateBack : Type 0
RateBack = (rate : ℤ) → SFits w64 rate → signed (signed_bits rate) ≡ rate

-- ---- services

abbrev pub Iff : Type 0 → Type 0 → Type 0
Iff A B = (A → B) × (B → A)

-- the services that are read back are the given ones exactly where those are below 2^32
pub record Services : Type 0 where
  pub of_version :
      (f : VersionFields) (agent : List ℕ) → Fit version (version_of f agent) → (v : Value version) (last : ℕ)
      → to_end (read version) (write version (version_of f agent)) ≡ got v last → Iff (v.1.0 ≡ f.services) (f.services < 2 ^ 32)
  pub of_remote :
      (f : VersionFields) (agent : List ℕ) → Fit version (version_of f agent) → (v : Value version) (last : ℕ)
      → to_end (read version) (write version (version_of f agent)) ≡ got v last
      → Iff (v.1.1.1.1.0.1.0 ≡ f.remote.services) (f.remote.services < 2 ^ 32)
  pub of_address :
      (a : AddressFields) → Fit address (address_of a) → (v : Value address) (last : ℕ)
      → to_end (read address) (write address (address_of a)) ≡ got v last → Iff (v.1.0 ≡ a.services) (a.services < 2 ^ 32)
  pub of_item :
      (x : Value flat_address) → Fit address (low_services x) → (v : Value address) (last : ℕ)
      → to_end (read address) (write address (low_services x)) ≡ got v last → Iff (v.1.0 ≡ x.1.0) (x.1.0 < 2 ^ 32)

-- `written_back`, proofs/Back.antt
pub record WrittenBack : Type 0 where
  pub reads_back : WriterReadsBack
  pub tested : TestedFits
  pub rate_back : RateBack
  pub services : Services
