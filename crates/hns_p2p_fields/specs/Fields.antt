-- A writer's arguments from a packet's numbers and places: an ip of two numbers, and the bytes that stand at a place, zeros where they are not all there.
use Rattle.std.specs.Prelude.{ℕ, List, ◌++◌, Option, Some, None}
use Rattle.hns_encoding.specs.Bytes.{le_bytes, raw_at}
use Rattle.hns_p2p_types.specs.declared.NetAddress.{NetAddress}
use Rattle.hns_p2p_types.specs.declared.VersionPacket.{VersionPacket}
use Rattle.hns_p2p_block_puts.specs.declared.AddressFields.{AddressFields}
use Rattle.hns_p2p_block_puts.specs.declared.VersionFields.{VersionFields}

-- the ip of two numbers
abbrev pub ip_in : ℕ → ℕ → List ℕ
ip_in first last = le_bytes 8 first ++ le_bytes 8 last

unfoldable pub address_fields_in : List ℕ → NetAddress → AddressFields
address_fields_in s a = record { time = a.time; services = a.services; ip = ip_in a.ip_first a.ip_last; port = a.port; key = raw_at 33 s a.key }

unfoldable pub version_fields_in : List ℕ → VersionPacket → VersionFields
version_fields_in s v =
    record {
      version = v.version;
      services = v.services;
      time = v.time;
      remote = address_fields_in s v.remote;
      nonce = v.nonce;
      height = v.height;
      no_relay = v.no_relay;
    }

abbrev pub hash_in : List ℕ → Option ℕ → Option (List ℕ)
hash_in s (Some p) = Some (raw_at 32 s p)
hash_in s None = None
