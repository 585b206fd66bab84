-- A version's fields as a caller in C gives them: the ip as two numbers, and the key as the front of a slice.
use Rattle.std.specs.Prelude.{ℕ, Bool, List}
use Rattle.hns_p2p_block_puts.specs.declared.VersionFields.{VersionFields}
use Rattle.hns_p2p_fields.specs.Fields.{address_fields_in}

abbrev pub version_from : (version services time remote_time remote_services ip_first ip_last port : ℕ) → List ℕ → (nonce height : ℕ) → Bool → VersionFields
version_from version services time remote_time remote_services ip_first ip_last port key nonce height no_relay =
    record {
      version = version;
      services = services;
      time = time;
      remote =
          address_fields_in
          key
          (record { time = remote_time; services = remote_services; ip_first = ip_first; ip_last = ip_last; port = port; key = 0 });
      nonce = nonce;
      height = height;
      no_relay = no_relay;
    }
