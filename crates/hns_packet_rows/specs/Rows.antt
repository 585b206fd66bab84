-- Answers about packets as rows of sixteen numbers, for a caller in C or Rust: 0 and what was answered, or the number of a refusal and its values a, b, c. What a case does not name is 0. The caller knows the type that it asked for, so that no number says which case it is.
use Rattle.std.specs.Prelude.{ℕ, ◌-◌, List, [], ◌∷◌, ◌++◌, length, replicate, Option, Some, None, Ok, Err}
use Rattle.std.specs.Int.{from_bool}
use Rattle.hns_refusals.specs.declared.Refusal.{Refusal}
use Rattle.hns_refusals.specs.Refusals.{Answer, number, values}
use Rattle.hns_p2p_types.specs.declared.Span.{Span}
use Rattle.hns_p2p_types.specs.declared.Items.{Items}
use Rattle.hns_p2p_types.specs.declared.VersionPacket.{VersionPacket}
use Rattle.hns_p2p_types.specs.declared.Packet.{Packet}
use Rattle.hns_p2p_types.specs.declared.Packet.TheVariants as P
use Rattle.hns_p2p_types.specs.declared.Item.{Item}
use Rattle.hns_p2p_types.specs.declared.Item.TheVariants as I
use Rattle.hns_p2p_types.specs.Packets.{signed_bits, address_numbers, inventory_numbers}
use Rattle.hns_p2p_card.specs.declared.Row.{Row}

-- sixteen numbers of which these are the first
abbrev pub filled : List ℕ → List ℕ
filled ns = ns ++ replicate (16 - length ns) 0

abbrev pub row : List ℕ → List ℕ
row ns = filled (0 ∷ ns)

abbrev pub refused_row : Refusal → List ℕ
refused_row r = filled (number r ∷ values r)

abbrev pub items_row : Items → List ℕ
items_row i = row (i.count ∷ i.first ∷ [])

abbrev pub span_row : Span → List ℕ
span_row s = row (s.start ∷ s.length ∷ [])

abbrev pub version_row : VersionPacket → List ℕ
version_row v =
    row (v.version ∷ v.services ∷ v.time ∷ (address_numbers v.remote ++ (v.nonce ∷ v.agent.start ∷ v.agent.length ∷ v.height ∷ from_bool v.no_relay ∷ [])))

-- 1 and the place of a hash, or 0
abbrev pub hash_numbers : Option ℕ → List ℕ
hash_numbers (Some p) = 1 ∷ p ∷ []
hash_numbers None = 0 ∷ 0 ∷ []

-- by the packet's numbers and places
abbrev pub fields_row : Packet → List ℕ
fields_row (P.Version v) = version_row v
fields_row P.Verack = row []
fields_row (P.Ping n) = row (n ∷ [])
fields_row (P.Pong n) = row (n ∷ [])
fields_row P.GetAddr = row []
fields_row (P.Addr i) = items_row i
fields_row (P.Inv i) = items_row i
fields_row (P.GetData i) = items_row i
fields_row (P.NotFound i) = items_row i
fields_row (P.GetBlocks l) = row (l.locator.count ∷ l.locator.first ∷ l.stop ∷ [])
fields_row (P.GetHeaders l) = row (l.locator.count ∷ l.locator.first ∷ l.stop ∷ [])
fields_row (P.Headers i) = items_row i
fields_row P.SendHeaders = row []
fields_row (P.Block s) = span_row s
fields_row (P.Tx s) = span_row s
fields_row (P.Reject r) = row (r.message ∷ r.code ∷ r.reason.start ∷ r.reason.length ∷ hash_numbers r.hash)
fields_row P.Mempool = row []
fields_row (P.FilterLoad s) = span_row s
fields_row (P.FilterAdd s) = span_row s
fields_row P.FilterClear = row []
fields_row (P.MerkleBlock s) = span_row s
fields_row (P.FeeFilter rate) = row (signed_bits rate ∷ [])
fields_row (P.SendCmpct mode version) = row (mode ∷ version ∷ [])
fields_row (P.CmpctBlock s) = span_row s
fields_row (P.GetBlockTxn q) = row (q.indexes.count ∷ q.indexes.first ∷ q.block_hash ∷ [])
fields_row (P.BlockTxn s) = span_row s
fields_row (P.GetProof p) = row (p.root ∷ p.key ∷ [])
fields_row (P.Proof s) = span_row s
fields_row (P.Claim s) = span_row s
fields_row (P.Airdrop s) = span_row s
fields_row (P.Unknown t s) = span_row s

abbrev pub packet_row : Answer Packet → List ℕ
packet_row (Ok p) = fields_row p
packet_row (Err r) = refused_row r

abbrev pub numbers_row : Item → List ℕ
numbers_row (I.Address a) = row (address_numbers a)
numbers_row (I.Inventory kind hash) = row (inventory_numbers kind hash)
numbers_row (I.Hash p) = row (p ∷ [])
numbers_row (I.Header p) = row (p ∷ [])
numbers_row (I.Index i) = row (i ∷ [])

abbrev pub item_row : Answer Item → List ℕ
item_row (Ok i) = numbers_row i
item_row (Err r) = refused_row r

-- 1 and a place, or 0
abbrev pub found_row : Answer (Option ℕ) → List ℕ
found_row (Ok (Some p)) = row (1 ∷ p ∷ [])
found_row (Ok None) = row []
found_row (Err r) = refused_row r

abbrev pub stored_row : Answer ℕ → List ℕ
stored_row (Ok n) = row (n ∷ [])
stored_row (Err r) = refused_row r

-- least and greatest length
abbrev pub card_numbers : Row → List ℕ
card_numbers c = row (c.least ∷ c.greatest ∷ [])
