-- What is proved of records: the flat writer finds the same items in them.
use Rattle.std.specs.Prelude.{◌^◌, ◌<◌, ◌≡◌, List, map, length}
use Rattle.hns_encoding.specs.Format.{Value, All}
use Rattle.hns_p2p_types.specs.Protocol.{inventory_item}
use Rattle.hns_p2p_list_puts.specs.Fields.{inventory_of}
use Rattle.hns_p2p_inventory.specs.declared.Inventory.{Inventory}
use Rattle.hns_p2p_inventory.specs.Items.{flat_items}

-- what a record's type says of it
abbrev pub Whole : Inventory → Type 0
Whole item = (item.kind < 2 ^ 32) × (length item.hash ≡ 32)

-- a record as an item of a payload
abbrev pub value_of : Inventory → Value inventory_item
value_of item = (item.kind, item.hash)

-- `same_items`, proofs/Items.antt
abbrev pub SameItems : Type 0
SameItems = (items : List Inventory) → All Whole items → inventory_of (flat_items items) ≡ map value_of items
