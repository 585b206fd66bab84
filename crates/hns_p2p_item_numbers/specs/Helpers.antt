-- What the contracts of private functions say: the numbers of items from the bytes at their places. No public contract cites this file.
use Rattle.std.specs.Prelude.{ℕ, zero, suc, ◌+◌, List, [], ◌++◌}
use Rattle.hns_encoding.specs.Bytes.{number_at}
use Rattle.hns_p2p_types.specs.Packets.{address_in, address_numbers, inventory_numbers}

-- the numbers of the address that begins at a place
abbrev pub address_at : List ℕ → ℕ → List ℕ
address_at s p = address_numbers (address_in s p)

-- and of the inventory item
abbrev pub inventory_at : List ℕ → ℕ → List ℕ
inventory_at s p = inventory_numbers (number_at 4 s p) (p + 4)

-- of n items of so many bytes from a place on
unfoldable pub numbers_from : (List ℕ → ℕ → List ℕ) → ℕ → List ℕ → ℕ → ℕ → List ℕ
numbers_from numbers bytes s zero p = []
numbers_from numbers bytes s (suc n) p = numbers s p ++ numbers_from numbers bytes s n (p + bytes)
