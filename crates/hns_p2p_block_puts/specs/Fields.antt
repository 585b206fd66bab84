-- What a writer is given for an address, a version and a reject, as a value of its format. Document 01, 'Not kept': of services the low 32 bits are written.
use Rattle.std.specs.Prelude.{ℕ, ◌%◌, ◌^◌, List, Bool, true, false}
use Rattle.hns_encoding.specs.Bytes.{choose}
use Rattle.hns_encoding.specs.Format.{raw, nothing, Value}
use Rattle.hns_p2p_types.specs.Protocol.{address, version, reject, carries_hash}
use Rattle.hns_p2p_block_puts.specs.declared.AddressFields.{AddressFields}
use Rattle.hns_p2p_block_puts.specs.declared.VersionFields.{VersionFields}

-- an address with the services that are written of it
abbrev pub address_value : ℕ → ℕ → List ℕ → ℕ → List ℕ → Value address
address_value time services ip port key = (time, (services % 2 ^ 32, (tt, (ip, (port, key)))))

abbrev pub address_of : AddressFields → Value address
address_of a = address_value a.time a.services a.ip a.port a.key

abbrev pub version_of : VersionFields → List ℕ → Value version
version_of v agent = (
  v.version,
  (v.services % 2 ^ 32, (tt, (v.time, (address_of v.remote, (v.nonce, (agent, (v.height, v.no_relay))))))),
)

-- the hash, where the rejected type carries one
abbrev pub hash_if : (b : Bool) → List ℕ → Value (choose b (raw 32) nothing)
hash_if true h = h
hash_if false h = tt

abbrev pub reject_of : ℕ → ℕ → List ℕ → List ℕ → Value reject
reject_of t code reason hash = (t, (code, (reason, hash_if (carries_hash t) hash)))
