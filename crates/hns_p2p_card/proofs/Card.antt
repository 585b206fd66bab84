-- The length card is right, row by row, and no other is.
use Prim.Native.Nat.{ℕ, zero, suc, ◌+◌, ◌≤◌}
use mathlib.Core.Path.{◌≡◌, refl, sym}
use mathlib.Core.List.{List, [], ◌∷◌}
use mathlib.Core.Bool.{Bool, true, false}
use native.Mathlib.Omega.{arith}
use lib.ListN.{length, get_or, get_or-eq_default, replicate, length-replicate}
use Rattle.hns_refusals.specs.Limits.{max_payload, block_header_size}
use Rattle.hns_refusals.specs.Refusals.{agent_field, reason_field}
use Rattle.hns_encoding.specs.Bytes.{choose, to_end}
use Rattle.hns_encoding.specs.Format.{Format, nothing, num, raw, reserved, flag, whole, text, ◌▸◌, read, write, size, Fixed}
use Rattle.hns_encoding.proofs.Numbers.{bytes_zeros}
use Rattle.hns_encoding.proofs.Outcomes.{to_end_got, to_end_fits}
use Rattle.hns_encoding.proofs.Back.{back, to_end_back}
use Rattle.hns_encoding.proofs.Forward.{forward}
use Rattle.hns_encoding.proofs.Rewritten.{rewritten}
use Rattle.hns_encoding.proofs.Blocks.{block_fits}
use Rattle.hns_header_consensus.specs.Layout.{header}
use Rattle.hns_p2p_types.proofs.Payloads.{by_got, by_reads}
use Rattle.hns_p2p_types.specs.declared.Packet.TheVariants as P
use Rattle.hns_p2p_types.specs.Protocol as protocol
use Rattle.hns_p2p_types.specs.Protocol.{Layout, always, read_by, address, inventory_item, version, addresses, inventory, locator, headers, carries_hash, reject}
use Rattle.hns_p2p_types.specs.Packets as packets
use Rattle.hns_p2p_types.specs.Packets.{◌&◌, raw_bytes}
use Rattle.hns_p2p_card.specs.declared.Row.{Row}
use Rattle.hns_p2p_card.specs.Card.{row, exactly, any_bytes, rows, card_row, Reads, Occurs, Right, Card, Unique, Only}
use Rattle.hns_p2p_card.proofs.Spans.{Writes, Within, Spans, fixed, text_spans, counted_spans, indexes_spans, tagged_spans, ◌then◌}

-- a type past the table is raw bytes
pub past_rows : (t : ℕ) → 30 ≤ t → any_bytes ≡ card_row t
unfolding card_row rows
past_rows t h = sym (get_or-eq_default rows any_bytes h)

-- ---- what reads by a layout

module _ (l : Layout) (s : List ℕ) where
  small : Reads (read_by l s) → (length s ≤ max_payload) × Reads (to_end (read (l (length s))) s)
  small a = let g = by_got l s a.2 in (g.0, (a.0, a.1, g.1))

  read_small : length s ≤ max_payload → Reads (to_end (read (l (length s))) s) → Reads (read_by l s)
  read_small h a = (a.0, a.1, by_reads l s h a.2)

-- what a format can write is accepted
written_occurs : {f : Format} {n : ℕ} → n ≤ max_payload → Writes f n → Occurs (λ s. Reads (read_by (always f) s)) n
written_occurs {f} h w =
    let s = write f w.value in
    (s, w.bytes, read_small (always f) s (omega (arith, w.long)) (w.value, length s, to_end_back (read f) s (back f w.value w.fit)), w.long)

-- and what is accepted is as long as what is written
fields : (f : Format) {low high : ℕ} → Spans f low high → high ≤ max_payload → Right (always f) (row low high)
fields f all h =
    record {
      between = λ s bs a.
          let e = (small (always f) s a).1 in
          let fit = (forward f s bs 0 (omega arith) e.0 e.1 (to_end_got (read f) s e.2).0).fit in
          rw (rewritten f s bs e.0 e.1 e.2).as_long at (all.within e.0 fit);
      shortest = written_occurs (omega (arith, all.shortest.long, (all.within all.shortest.value all.shortest.fit).1)) all.shortest;
      longest = written_occurs h all.longest;
    }

-- a format of fixed size
of_size : (f : Format) → Fixed f → size f ≤ max_payload → Right (always f) (exactly (size f))
of_size f x h = fields f (fixed f x) h

-- raw bytes
zeros_read : (n : ℕ) → n ≤ max_payload → Occurs (λ s. Reads (read_by raw s)) n
zeros_read n h =
    let s : List ℕ = replicate n 0 in
    let long : length s ≡ n = length-replicate n 0 in
    (s, bytes_zeros n, read_small raw s (omega arith) (_, _, to_end_fits (read (raw (length s))) s (block_fits (raw (length s)) tt s 0 (omega arith)) (omega arith)), long)

anything : Right raw any_bytes
anything = record { between = λ s bs a. (omega arith, (small raw s a).0); shortest = zeros_read 0 (omega arith); longest = zeros_read max_payload (omega arith) }

-- ---- row by row

abbrev EachRow : List packets.Row → List Row → Type 0
EachRow [] [] = Unit {0}
EachRow [] (r ∷ rs) = ⊥
EachRow (w ∷ ws) [] = ⊥
EachRow (w ∷ ws) (r ∷ rs) = Right w.layout r × EachRow ws rs

-- a type that the table of packets does not have is one that this table does not have
look_up : (ws : List packets.Row) (rs : List Row) (d : packets.Row) (t : ℕ) → Right d.layout any_bytes → EachRow ws rs → Right (get_or ws t d).layout (get_or rs t any_bytes)
look_up [] [] d t k h = k
look_up [] (r ∷ rs) d t k h = absurd h
look_up (w ∷ ws) [] d t k h = absurd h
look_up (w ∷ ws) (r ∷ rs) d zero k h = h.0
look_up (w ∷ ws) (r ∷ rs) d (suc t) k h = look_up ws rs d t k h.1

address_fixed : Fixed address
address_fixed = tt & tt & tt & tt & tt & tt

header_fixed : Fixed (whole block_header_size header)
header_fixed = refl & tt & tt & tt & tt & tt & tt & tt & tt & tt & tt & tt

of_version : Right (always version) (row 122 377)
of_version =
    fields version
    (fixed (num 4) tt then fixed (num 4) tt then fixed (reserved 4) tt then fixed (num 8) tt then fixed address address_fixed then fixed (num 8) tt
    then text_spans agent_field
    then fixed (num 4) tt then fixed flag tt)
    (omega arith)

-- shortest with no hash, as after type 0, and longest with one, as after type 13
of_reject : Right (always reject) (row 3 290)
unfolding carries_hash
of_reject = fields reject (tagged_spans (λ t. within (carries_hash t)) 0 13 (omega arith) (omega arith) (by_hash false).shortest (by_hash true).longest) (omega arith)
  where
    hash : (b : Bool) → Spans (choose b (raw 32) nothing) (choose b 32 0) (choose b 32 0)
    hash true = fixed (raw 32) tt
    hash false = fixed nothing tt

    by_hash : (b : Bool) → Spans (num 1 ▸ text reason_field ▸ choose b (raw 32) nothing) (1 + (1 + choose b 32 0)) (1 + (256 + choose b 32 0))
    by_hash b = fixed (num 1) tt then text_spans reason_field then hash b

    within : (b : Bool) → Within (num 1 ▸ text reason_field ▸ choose b (raw 32) nothing) 2 289
    within true v h = let e = (by_hash true).within v h in (omega (arith, e.0), e.1)
    within false v h = let e = (by_hash false).within v h in (e.0, omega (arith, e.1))

empty : Right (always protocol.empty) (exactly 0)
empty = of_size protocol.empty tt (omega arith)

eight : Right (always protocol.nonce) (exactly 8)
eight = of_size protocol.nonce tt (omega arith)

of_addresses : Right (always addresses) (row 1 88003)
of_addresses = fields addresses (counted_spans address address_fixed (omega arith) (omega arith)) (omega arith)

of_items : Right (always inventory) (row 1 1800003)
of_items = fields inventory (counted_spans inventory_item (tt, tt) (omega arith) (omega arith)) (omega arith)

of_hashes : Right (always locator) (row 33 1600035)
of_hashes = fields locator (counted_spans (raw 32) tt (omega arith) (omega arith) then fixed (raw 32) tt) (omega arith)

of_headers : Right (always headers) (row 1 472003)
of_headers = fields headers (counted_spans (whole block_header_size header) header_fixed (omega arith) (omega arith)) (omega arith)

of_mode : Right (always protocol.sendcmpct) (exactly 9)
of_mode = of_size protocol.sendcmpct (tt, tt) (omega arith)

of_indexes : Right (always protocol.getblocktxn) (row 33 17083)
of_indexes = fields protocol.getblocktxn (fixed (raw 32) tt then indexes_spans) (omega arith)

of_root : Right (always protocol.getproof) (exactly 64)
of_root = of_size protocol.getproof (tt, tt) (omega arith)

-- Every row is right.
pub card : Card
unfolding packets.row packets.rows card_row rows
card t =
    look_up packets.rows rows (raw_bytes (P.Unknown t)) t anything
    (of_version
    & empty
    & eight
    & eight
    & empty
    & of_addresses
    & of_items
    & of_items
    & of_items
    & of_hashes
    & of_hashes
    & of_headers
    & empty
    & anything
    & anything
    & of_reject
    & empty
    & anything
    & anything
    & empty
    & anything
    & eight
    & of_mode
    & anything
    & of_indexes
    & anything
    & of_root
    & anything
    & anything
    & anything
    & tt)

-- ---- and no other

-- There is one least and one greatest length.
pub unique : Unique
unique A l h l' h' a b = (least a.shortest b.shortest, greatest a.longest b.longest)
  where
    least : Occurs A l → Occurs A l' → l ≡ l'
    least (s, bs, x, e) (s', bs', x', e') = omega (arith, (a.between s' bs' x').0, (b.between s bs x).0)

    greatest : Occurs A h → Occurs A h' → h ≡ h'
    greatest (s, bs, x, e) (s', bs', x', e') = omega (arith, (a.between s' bs' x').1, (b.between s bs x).1)

-- A row with any other number is not right.
pub only : Only
only t r a =
    let e = unique _ _ _ _ _ a (card t) in
    let same : row r.least r.greatest ≡ row (card_row t).least (card_row t).greatest = cc (e.0, e.1) in
    same
