-- What the contract of a private function says. No public contract cites this file.
use Rattle.hns_encoding.specs.Format.{Value}
use Rattle.hns_p2p_block_puts.specs.declared.AddressFields.{AddressFields}
use Rattle.hns_p2p_list_puts.specs.Fields.{flat_address}

-- an address as an item of a flat list
abbrev pub flat_fields : AddressFields → Value flat_address
flat_fields a = (a.time, (a.services, (a.ip, (a.port, a.key))))
