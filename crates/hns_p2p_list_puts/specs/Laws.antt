-- What is proved of flat lists: every list of values that can be written has one.
use Rattle.std.specs.Prelude.{◌<◌, ◌≡◌, List, map}
use Rattle.hns_encoding.specs.Format.{Format, Value, Fixed, Fit, All, size, write, write_all}
use Rattle.hns_p2p_types.specs.Protocol.{address}
use Rattle.hns_p2p_list_puts.specs.Fields.{flat, flat_address, flat_address_of, addresses_of}

-- `flat_back`, proofs/Items.antt
abbrev pub FlatBack : Type 0
FlatBack = (f : Format) (x : Fixed f) → 0 < size f → (vs : List (Value f)) → All (Fit f) vs → flat f x (write_all (write f) vs) ≡ vs

-- `addresses_back`, proofs/Items.antt
abbrev pub AddressesBack : Type 0
AddressesBack = (vs : List (Value address)) → All (Fit address) vs → addresses_of (write_all (write flat_address) (map flat_address_of vs)) ≡ vs
