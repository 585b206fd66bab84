-- What the contracts of private functions say: an item of a list from the numbers at its places. No public contract cites this file.
use Rattle.std.specs.Prelude.{ℕ, ◌+◌, ◌*◌, List, Ok, Err}
use Rattle.hns_refusals.specs.Limits.{block_header_size}
use Rattle.hns_refusals.specs.Refusals.{Answer, no_item}
use Rattle.hns_encoding.specs.Bytes.{number_at}
use Rattle.hns_encoding.specs.Format.{indexes_from}
use Rattle.hns_p2p_types.specs.declared.Items.{Items}
use Rattle.hns_p2p_types.specs.declared.Item.{Item}
use Rattle.hns_p2p_types.specs.declared.Item.TheVariants as I
use Rattle.hns_p2p_types.specs.declared.Listing.{Listing}
use Rattle.hns_p2p_types.specs.declared.Listing.TheVariants as L
use Rattle.hns_p2p_types.specs.Packets.{address_in}
use Rattle.hns_p2p_differences.specs.declared.Passed.{Passed}
use Rattle.hns_p2p_differences.specs.Passing.{passed_of}

unfoldable pub items_in : Listing → Items
items_in (L.Addresses i) = i
items_in (L.Inventory i) = i
items_in (L.Hashes i) = i
items_in (L.Headers i) = i
items_in (L.Indexes i) = i
items_in L.Nothing = record { count = 0; first = 0 }

-- the last of indexes that were passed
abbrev pub last_item : Answer Passed → Answer Item
last_item (Ok passed) = Ok (I.Index passed.last)
last_item (Err r) = Err r

unfoldable pub index_in : List ℕ → ℕ → ℕ → Answer Item
index_in s first k = last_item (passed_of (indexes_from (k + 1) 0 s first))

unfoldable pub item_in : List ℕ → Listing → ℕ → ℕ → Answer Item
item_in s (L.Addresses i) first k = Ok (I.Address (address_in s (first + k * 88)))
item_in s (L.Inventory i) first k = Ok (I.Inventory (number_at 4 s (first + k * 36)) (first + k * 36 + 4))
item_in s (L.Hashes i) first k = Ok (I.Hash (first + k * 32))
item_in s (L.Headers i) first k = Ok (I.Header (first + k * block_header_size))
item_in s (L.Indexes i) first k = index_in s first k
item_in s L.Nothing first k = Err no_item
