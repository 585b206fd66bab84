-- What each writer gives of its arguments and an output. The contracts are these.
use Rattle.std.specs.Prelude.{ℕ, ◌/◌, List, Bool, ℤ, length, Ok}
use Rattle.hns_refusals.specs.Limits.{max_addresses, max_inventory, max_locator, max_headers, block_header_size}
use Rattle.hns_refusals.specs.Refusals.{address_field, inventory_field, locator_field, header_field, agent_field}
use Rattle.hns_encoding.specs.Format.{raw, size, write}
use Rattle.hns_p2p_types.specs.Protocol.{empty, nonce, addresses, inventory_item, inventory, locator, headers, version, reject, feefilter, sendcmpct, getblocktxn, getproof}
use Rattle.hns_p2p_types.specs.Packets.{signed_bits}
use Rattle.hns_p2p_frame.specs.Frame.{Written}
use Rattle.hns_p2p_plans.specs.Tests.{within, text_tests, reject_tests, index_tests}
use Rattle.hns_p2p_block_puts.specs.declared.VersionFields.{VersionFields}
use Rattle.hns_p2p_block_puts.specs.Fields.{version_of, reject_of}
use Rattle.hns_p2p_list_puts.specs.Fields.{flat_address, addresses_of, inventory_of, hashes_of, headers_of}
use Rattle.hns_p2p_writer.specs.Writing.{writing}

abbrev pub gives_version : VersionFields → List ℕ → List ℕ → Written
gives_version fields agent o = writing (text_tests agent_field agent) (write version (version_of fields agent)) o

-- types 1, 4, 12, 16, 19
abbrev pub gives_empty : List ℕ → Written
gives_empty o = writing (Ok tt) (write empty tt) o

-- ping and pong
abbrev pub gives_nonce : ℕ → List ℕ → Written
gives_nonce v o = writing (Ok tt) (write nonce v) o

-- whole addresses of 67 bytes
abbrev pub gives_addr : List ℕ → List ℕ → Written
gives_addr items o = writing (within (length items / size flat_address) max_addresses address_field) (write addresses (addresses_of items)) o

-- inv, getdata and notfound: whole items of 36 bytes
abbrev pub gives_inventory : List ℕ → List ℕ → Written
gives_inventory items o = writing (within (length items / size inventory_item) max_inventory inventory_field) (write inventory (inventory_of items)) o

-- getblocks and getheaders: whole hashes of 32 bytes
abbrev pub gives_locator : List ℕ → List ℕ → List ℕ → Written
gives_locator hashes stop o = writing (within (length hashes / size (raw 32)) max_locator locator_field) (write locator (hashes_of hashes, stop)) o

-- whole headers of 236 bytes
abbrev pub gives_headers : List ℕ → List ℕ → Written
gives_headers items o = writing (within (length items / block_header_size) max_headers header_field) (write headers (headers_of items)) o

abbrev pub gives_reject : ℕ → ℕ → List ℕ → Bool → List ℕ → List ℕ → Written
gives_reject message code reason present hash o =
    writing (reject_tests message reason present) (write reject (reject_of message code reason hash)) o

abbrev pub gives_fee_filter : ℤ → List ℕ → Written
gives_fee_filter rate o = writing (Ok tt) (write feefilter (signed_bits rate)) o

abbrev pub gives_send_cmpct : ℕ → ℕ → List ℕ → Written
gives_send_cmpct mode v o = writing (Ok tt) (write sendcmpct (mode, v)) o

abbrev pub gives_get_block_txn : List ℕ → List ℕ → List ℕ → Written
gives_get_block_txn hash is o = writing (index_tests is) (write getblocktxn (hash, is)) o

abbrev pub gives_get_proof : List ℕ → List ℕ → List ℕ → Written
gives_get_proof root key o = writing (Ok tt) (write getproof (root, key)) o

-- raw and carried types: the bytes as they are
abbrev pub gives_raw : List ℕ → List ℕ → Written
gives_raw payload o = writing (Ok tt) (write (raw (length payload)) payload) o
