-- Document 01's limits, each named once.
use Rattle.std.specs.Prelude.{ℕ}

-- the bytes of a frame before its payload
abbrev pub header_size : ℕ
header_size = 9

-- the most bytes of a payload
abbrev pub max_payload : ℕ
max_payload = 8000000

-- the most bytes that are held and pushed together
abbrev pub max_stream : ℕ
max_stream = 16000018

-- the bytes of a block header
abbrev pub block_header_size : ℕ
block_header_size = 236

-- the most addresses, inventory items, locator hashes and headers of a list
abbrev pub max_addresses : ℕ
max_addresses = 1000

abbrev pub max_inventory : ℕ
max_inventory = 50000

abbrev pub max_locator : ℕ
max_locator = 50000

abbrev pub max_headers : ℕ
max_headers = 2000

-- the most indexes of one request for a block's transactions, and the greatest index
abbrev pub max_indexes : ℕ
max_indexes = 16662

abbrev pub max_index : ℕ
max_index = 65535

-- the most bytes of an agent or a reason
abbrev pub max_text : ℕ
max_text = 255
