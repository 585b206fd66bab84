-- Document 01, 'The packet', its paragraph on what a packet is: the writers by type, each given what a payload was read as.
use Rattle.std.specs.Prelude.{ℕ, Bool, true, false, List, map, replicate}
use Rattle.hns_refusals.specs.Limits.{block_header_size}
use Rattle.hns_encoding.specs.Bytes.{choose}
use Rattle.hns_encoding.specs.Format.{Format, raw, nothing, whole, Value, write, write_all, All}
use Rattle.hns_header_consensus.specs.Layout.{header}
use Rattle.hns_p2p_types.specs.declared.Packet.TheVariants as P
use Rattle.hns_p2p_types.specs.Protocol.{address, version, inventory_item, carries_hash}
use Rattle.hns_p2p_types.specs.Packets.{signed, agent_of, reason_of, Row, rows, raw_bytes, row, ◌&◌, entry}
use Rattle.hns_p2p_frame.specs.Frame.{Written}
use Rattle.hns_p2p_block_puts.specs.declared.AddressFields.{AddressFields}
use Rattle.hns_p2p_block_puts.specs.declared.VersionFields.{VersionFields}
use Rattle.hns_p2p_list_puts.specs.Fields.{flat_address, flat_address_of}
use Rattle.hns_p2p_writer.specs.Writers.{gives_version, gives_empty, gives_nonce, gives_addr, gives_inventory, gives_locator, gives_headers, gives_reject, gives_fee_filter, gives_send_cmpct, gives_get_block_txn, gives_get_proof, gives_raw}

-- ---- what was read, as arguments of a writer

-- items one after another
abbrev pub flat_of : (f : Format) → List (Value f) → List ℕ
flat_of f vs = write_all (write f) vs

abbrev pub flat_addresses : List (Value address) → List ℕ
flat_addresses vs = flat_of flat_address (map flat_address_of vs)

abbrev pub address_fields : Value address → AddressFields
address_fields a = record { time = a.0; services = a.1.0; ip = a.1.1.1.0; port = a.1.1.1.1.0; key = a.1.1.1.1.1 }

-- the fields but for the agent
abbrev pub version_fields : Value version → VersionFields
version_fields v =
    record {
      version = v.0;
      services = v.1.0;
      time = v.1.1.1.0;
      remote = address_fields v.1.1.1.1.0;
      nonce = v.1.1.1.1.1.0;
      height = v.1.1.1.1.1.1.1.0;
      no_relay = v.1.1.1.1.1.1.1.1;
    }

-- the hash of a reject that has one; else zeros, which are not written
abbrev pub hash_of : (b : Bool) → Value (choose b (raw 32) nothing) → List ℕ
hash_of true h = h
hash_of false h = replicate 32 0

-- ---- a further column of the table of types

-- from what a payload of n bytes was read as, and an output, to the writer's answer and what the output holds after it
pub record Writer (w : Row) : Type 0 where
  pub writes : (n : ℕ) → Value (w.layout n) → List ℕ → Written

abbrev pub by : {w : Row} → ((n : ℕ) → Value (w.layout n) → List ℕ → Written) → Writer w
by f = record { writes = f }

-- types 0 to 29 in order: each is the contract of that type's writer
unfoldable pub writers : All Writer rows
unfolding rows
writers =
    by (λ n v. gives_version (version_fields v) (agent_of v))
    & by (λ n v. gives_empty)
    & by (λ n v. gives_nonce v)
    & by (λ n v. gives_nonce v)
    & by (λ n v. gives_empty)
    & by (λ n v. gives_addr (flat_addresses v))
    & by (λ n v. gives_inventory (flat_of inventory_item v))
    & by (λ n v. gives_inventory (flat_of inventory_item v))
    & by (λ n v. gives_inventory (flat_of inventory_item v))
    & by (λ n v. gives_locator (flat_of (raw 32) v.0) v.1)
    & by (λ n v. gives_locator (flat_of (raw 32) v.0) v.1)
    & by (λ n v. gives_headers (flat_of (whole block_header_size header) v))
    & by (λ n v. gives_empty)
    & by (λ n v. gives_raw v)
    & by (λ n v. gives_raw v)
    & by (λ n v. gives_reject v.0 v.1.0 (reason_of v) (carries_hash v.0) (hash_of (carries_hash v.0) v.1.1.1))
    & by (λ n v. gives_empty)
    & by (λ n v. gives_raw v)
    & by (λ n v. gives_raw v)
    & by (λ n v. gives_empty)
    & by (λ n v. gives_raw v)
    & by (λ n v. gives_fee_filter (signed v))
    & by (λ n v. gives_send_cmpct v.0 v.1)
    & by (λ n v. gives_raw v)
    & by (λ n v. gives_get_block_txn v.0 v.1)
    & by (λ n v. gives_raw v)
    & by (λ n v. gives_get_proof v.0 v.1)
    & by (λ n v. gives_raw v)
    & by (λ n v. gives_raw v)
    & by (λ n v. gives_raw v)
    & tt

-- 30 to 255: raw bytes
unfoldable pub writer : (t : ℕ) → Writer (row t)
unfolding row
writer t = entry Writer rows (raw_bytes (P.Unknown t)) t writers (by (λ n v. gives_raw v))
