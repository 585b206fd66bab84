-- Flat lists that a writer is given: whole items one after another, and a rest that is ignored.
use Rattle.std.specs.Prelude.{ℕ, ◌/◌, List, map, refl, length}
use Rattle.hns_refusals.specs.Limits.{block_header_size}
use Rattle.hns_encoding.specs.Format.{Format, num, raw, whole, ◌▸◌, Value, Fixed, size, values_at}
use Rattle.hns_header_consensus.specs.Layout.{header}
use Rattle.hns_p2p_types.specs.Protocol.{address, inventory_item}
use Rattle.hns_p2p_block_puts.specs.Fields.{address_value}

unfoldable pub flat : (f : Format) → Fixed f → List ℕ → List (Value f)
flat f x s = values_at f x (length s / size f) s 0

-- an address of a flat list, 67 bytes: time 8, services 8, ip 16, port 2, key 33
abbrev pub flat_address : Format
flat_address = num 8 ▸ num 8 ▸ raw 16 ▸ num 2 ▸ raw 33

abbrev pub low_services : Value flat_address → Value address
low_services v = address_value v.0 v.1.0 v.1.1.0 v.1.1.1.0 v.1.1.1.1

-- an address that was read, as an item of a flat list
abbrev pub flat_address_of : Value address → Value flat_address
flat_address_of v = (v.0, (v.1.0, (v.1.1.1.0, (v.1.1.1.1.0, v.1.1.1.1.1))))

unfoldable pub addresses_of : List ℕ → List (Value address)
addresses_of s = map low_services (flat flat_address _ s)

unfoldable pub inventory_of : List ℕ → List (Value inventory_item)
inventory_of s = flat inventory_item _ s

unfoldable pub hashes_of : List ℕ → List (Value (raw 32))
hashes_of s = flat (raw 32) _ s

unfoldable pub headers_of : List ℕ → List (Value (whole block_header_size header))
headers_of s = flat (whole block_header_size header) (refl, _) s
