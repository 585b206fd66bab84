-- Document 01, 'The packet': the protocol on one page, a line for each format of a payload.
use Rattle.std.specs.Prelude.{ℕ, List, Bool, ◌||◌, length, leb, eqb}
use Rattle.hns_refusals.specs.Limits.{max_payload, block_header_size, max_addresses, max_inventory, max_locator, max_headers}
use Rattle.hns_refusals.specs.Refusals.{payload_too_large, address_field, inventory_field, locator_field, header_field, agent_field, reason_field}
use Rattle.hns_encoding.specs.Bytes.{choose, Outcome, stop, to_end}
use Rattle.hns_encoding.specs.Format.{Format, nothing, num, raw, reserved, host, flag, text, counted, indexes, whole, tagged, ◌▸◌, Value, read}
use Rattle.hns_header_consensus.specs.Layout.{header}

-- time, services, host kind and host, port, key
abbrev pub address : Format
address = num 8 ▸ num 4 ▸ reserved 4 ▸ host ▸ num 2 ▸ raw 33

-- 0: version, services, time, address, nonce, agent, height, no-relay
abbrev pub version : Format
version = num 4 ▸ num 4 ▸ reserved 4 ▸ num 8 ▸ address ▸ num 8 ▸ text agent_field ▸ num 4 ▸ flag

-- 1, 4, 12, 16, 19
abbrev pub empty : Format
empty = nothing

-- 2, 3
abbrev pub nonce : Format
nonce = num 8

-- 5
abbrev pub addresses : Format
addresses = counted max_addresses address_field address

-- kind and hash
abbrev pub inventory_item : Format
inventory_item = num 4 ▸ raw 32

-- 6, 7, 8
abbrev pub inventory : Format
inventory = counted max_inventory inventory_field inventory_item

-- 9, 10: hashes and the stop hash
abbrev pub locator : Format
locator = counted max_locator locator_field (raw 32) ▸ raw 32

-- 11
abbrev pub headers : Format
headers = counted max_headers header_field (whole block_header_size header)

-- a rejected block, tx, claim or airdrop is named by its hash
unfoldable pub carries_hash : ℕ → Bool
carries_hash t = eqb t 13 || (eqb t 14 || (eqb t 28 || eqb t 29))

abbrev pub rejected_hash : ℕ → Format
rejected_hash t = choose (carries_hash t) (raw 32) nothing

-- 15: the rejected type, code, reason, hash
abbrev pub reject : Format
reject = tagged (λ t. num 1 ▸ text reason_field ▸ rejected_hash t)

-- 21: two's complement
abbrev pub feefilter : Format
feefilter = num 8

-- 22: mode and version
abbrev pub sendcmpct : Format
sendcmpct = num 1 ▸ num 8

-- 24: hash and indexes
abbrev pub getblocktxn : Format
getblocktxn = raw 32 ▸ indexes

-- 26: root and key
abbrev pub getproof : Format
getproof = raw 32 ▸ raw 32

-- ---- formats that go by the payload's length

abbrev pub Layout : Type 0
Layout = ℕ → Format

abbrev pub always : Format → Layout
always f n = f

-- 13, 14, 17, 18, 20, 23, 25, 27 to 255: all bytes as they stand
abbrev pub raw_payload : Layout
raw_payload n = raw n

-- 5 before the fields; the fields from left to right; 3 after them
unfoldable pub read_by : (l : Layout) (s : List ℕ) → Outcome (Value (l (length s)))
read_by l s = choose (leb (length s) max_payload) (to_end (read (l (length s))) s) (stop (payload_too_large (length s)))
