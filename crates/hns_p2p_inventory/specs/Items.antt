-- Records as the flat items of 36 bytes that the flat writer takes.
use Rattle.std.specs.Prelude.{List, ◌++◌, ℕ}
use Rattle.hns_encoding.specs.Bytes.{le_bytes}
use Rattle.hns_encoding.specs.Format.{write_all}
use Rattle.hns_p2p_inventory.specs.declared.Inventory.{Inventory}

-- kind 4, hash 32
unfoldable pub item_bytes : Inventory → List ℕ
item_bytes item = le_bytes 4 item.kind ++ item.hash

-- one after another
abbrev pub flat_items : List Inventory → List ℕ
flat_items items = write_all item_bytes items
