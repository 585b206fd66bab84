-- What stands at the places that a packet answers, row by row. Assumes nothing.
use Prim.Native.Nat.{ℕ, zero, suc, ◌+◌, ◌-◌, ◌<◌}
use mathlib.Core.Path.{◌≡◌, refl, sym, ap, ◌∙◌, subst}
use mathlib.Core.Bool.{Bool, true, false}
use mathlib.Core.List.{List, [], ◌∷◌}
use native.Mathlib.Omega.{arith}
use lib.ListN.{length, get_or}
use Rattle.hns_refusals.specs.Limits.{max_locator}
use Rattle.hns_refusals.specs.Refusals.{locator_field}
use Rattle.hns_encoding.specs.Bytes.{choose, part, number_at, got, to_end, bytes_at}
use Rattle.hns_encoding.specs.Format.{Format, nothing, raw, counted, indexes, ◌▸◌, Value, read, sum, All, value_at, widths_at, Flat}
use Rattle.hns_encoding.proofs.Outcomes.{after_got, bytes_got, to_end_got}
use Rattle.hns_encoding.proofs.Numbers.{part_length}
use Rattle.hns_p2p_types.proofs.Payloads.{by_got}
use Rattle.hns_p2p_types.specs.declared.Span.{Span}
use Rattle.hns_p2p_types.specs.declared.Packet.{Packet}
use Rattle.hns_p2p_types.specs.declared.Packet.TheVariants as P
use Rattle.hns_p2p_types.specs.declared.LocatorPacket.{LocatorPacket}
use Rattle.std.specs.Prelude.{Some, None}
use Rattle.hns_p2p_types.specs.Protocol.{version, locator, carries_hash, reject, getblocktxn, getproof}
use Rattle.hns_p2p_types.specs.Packets.{Row, worded, fields, raw_bytes, version_packet, locator_packet, reject_packet, span_at, agent_of, reason_of, items_at, rows, row, layout, ◌&◌, entry}
use Rattle.hns_p2p_blocks.proofs.Packets.{reject_flat}
use Rattle.hns_p2p_packet.proofs.Texts.{flat_got, row_words}
use Rattle.hns_p2p_laws.specs.Places.{at, hash_place, raw_places, Parts, parts_by, no_parts, rejected_part, columns, parts_of, standing, PlacesStand}

-- the claim of one row and its parts
abbrev Stand : (w : Row) → Parts w → Type 0
Stand w c = (s : List ℕ) (v : Value (w.layout (length s))) (last : ℕ) → to_end (read (w.layout (length s))) s ≡ got v last → standing s (raw_places (w.packet s v)) ≡ c.parts (length s) v

-- the first and the last field of a payload, where they are bytes
first_raw : (n : ℕ) (g : Format) (s : List ℕ) (v : Value (raw n ▸ g)) (last : ℕ) → to_end (read (raw n ▸ g)) s ≡ got v last → v.0 ≡ part s 0 n
unfolding read
first_raw n g s v last e =
    let a = after_got (bytes_at n s 0) _ (to_end_got (read (raw n ▸ g)) s e).0 in
    let b = after_got (read g s a.1) _ a.3 in
    let is : a.0 ≡ v.0 = cc b.3 in
    sym is ∙ (bytes_got n s 0 a.2).0

last_raw : (f : Format) (n : ℕ) → 0 < n → (s : List ℕ) (v : Value (f ▸ raw n)) (last : ℕ) → to_end (read (f ▸ raw n)) s ≡ got v last → v.1 ≡ part s (length s - n) n
unfolding read
last_raw f n many s v last e =
    let t = to_end_got (read (f ▸ raw n)) s e in
    let a = after_got (read f s 0) _ t.0 in
    let b = after_got (bytes_at n s a.1) _ a.3 in
    let g = bytes_got n s a.1 b.2 in
    let is : b.0 ≡ v.1 = cc b.3 in
    let stop : b.1 ≡ last = cc b.3 in
    let at : a.1 ≡ length s - n = omega (arith, t.1, g.1, g.2, stop, many) in
    sym is ∙ (g.0 ∙ ap (λ (p : ℕ). part s p n) at)

-- ---- row by row

pub record Stands (w : Row) (c : Parts w) : Type 0 where
  pub stand : Stand w c

none : {w : Row} → ((s : List ℕ) (v : Value (w.layout (length s))) → [] ≡ raw_places (w.packet s v)) → Stands w no_parts
none h = record { stand = λ s v last e. ap (standing s) (sym (h s v)) }

raw_stands : (k : Span → Packet) → ((p : Span) → (p ∷ []) ≡ raw_places (k p)) → Stands (raw_bytes k) (parts_by (λ n v. v ∷ []))
unfolding read
raw_stands k h = record {
  stand = λ s v last e.
      let g = bytes_got (length s) s 0 (to_end_got (read (raw (length s))) s e).0 in
      let long : length v ≡ length s = ap length g.0 ∙ part_length s 0 (length s) (omega arith) in
      let is : v ≡ part s 0 (length v) = g.0 ∙ ap (part s 0) (sym long) in
      ap (standing s) (sym (h (span_at 0 v))) ∙ ap (λ (x : List ℕ). x ∷ []) (sym is);
}

key_stands : Stands (worded version (λ s v. P.Version (version_packet v)) agent_of) (parts_by (λ n v. v.1.1.1.1.0.1.1.1.1.1 ∷ []))
unfolding raw_places
key_stands = record {
  stand = λ s v last e.
      let g = flat_got version _ s 0 (to_end_got (read version) s e).0 in
      subst (λ (u : Value version). part s 75 33 ∷ [] ≡ u.1.1.1.1.0.1.1.1.1.1 ∷ []) g.0 refl;
}

stop_stands : (k : LocatorPacket → Packet) → ((l : LocatorPacket) → at l.stop 32 ∷ [] ≡ raw_places (k l)) → Stands (fields locator (λ s v. k (locator_packet s v))) (parts_by (λ n v. v.1 ∷ []))
stop_stands k h = record {
  stand = λ s v last e.
      ap (standing s) (sym (h (locator_packet s v))) ∙ ap (λ (x : List ℕ). x ∷ []) (sym (last_raw (counted max_locator locator_field (raw 32)) 32 (omega arith) s v last e));
}

hash_stands : (s : List ℕ) (b : Bool) (x : Flat (choose b (raw 32) nothing)) (p : ℕ) → p + sum (widths_at (choose b (raw 32) nothing) s p) ≡ length s
    → standing s (hash_place (choose b (Some (length s - 32)) None)) ≡ rejected_part b (value_at (choose b (raw 32) nothing) x s p)
hash_stands s true x p h = let here : length s - 32 ≡ p = omega (arith, h) in ap (λ (q : ℕ). part s q 32 ∷ []) here
hash_stands s false x p h = refl

reject_stands : Stands (worded reject (λ s v. P.Reject (reject_packet s v)) reason_of) (parts_by (λ n v. rejected_part (carries_hash v.0) v.1.1.1))
unfolding raw_places
reject_stands = record {
  stand = λ s v last e.
      let t = to_end_got (read reject) s e in
      let g = flat_got reject reject_flat s 0 t.0 in
      subst (λ (u : Value reject). standing s (hash_place (choose (carries_hash u.0) (Some (length s - 32)) None)) ≡ rejected_part (carries_hash u.0) u.1.1.1) g.0
      (hash_stands s (carries_hash (number_at 1 s 0)) _ (2 + (1 + (number_at 1 s 2 + 0))) (omega (arith, g.1, g.2, t.1)));
}

request_stands : Stands (fields getblocktxn (λ s v. P.GetBlockTxn (record { block_hash = 0; indexes = items_at 32 v.1 }))) (parts_by (λ n v. v.0 ∷ []))
unfolding raw_places
request_stands = record { stand = λ s v last e. ap (λ (x : List ℕ). x ∷ []) (sym (first_raw 32 indexes s v last e)) }

root_stands : Stands (fields getproof (λ s v. P.GetProof (record { root = 0; key = 32 }))) (parts_by (λ n v. v.0 ∷ v.1 ∷ []))
unfolding raw_places
root_stands = record {
  stand = λ s v last e.
      let g = flat_got getproof _ s 0 (to_end_got (read getproof) s e).0 in
      subst (λ (u : Value getproof). part s 0 32 ∷ part s 32 32 ∷ [] ≡ u.0 ∷ u.1 ∷ []) g.0 refl;
}

-- ---- all rows

-- the claim of each row of a table, of a further column
abbrev Each : (l : List Row) → All Parts l → Type 0
Each [] c = Unit {0}
Each (w ∷ l) c = Stands w c.0 × Each l c.1

rows_stand : Each rows columns
unfolding rows columns raw_places
rows_stand =
    key_stands
    & none (λ s v. refl)
    & none (λ s v. refl)
    & none (λ s v. refl)
    & none (λ s v. refl)
    & none (λ s v. refl)
    & none (λ s v. refl)
    & none (λ s v. refl)
    & none (λ s v. refl)
    & stop_stands P.GetBlocks (λ l. refl)
    & stop_stands P.GetHeaders (λ l. refl)
    & none (λ s v. refl)
    & none (λ s v. refl)
    & raw_stands P.Block (λ k. refl)
    & raw_stands P.Tx (λ k. refl)
    & reject_stands
    & none (λ s v. refl)
    & raw_stands P.FilterLoad (λ k. refl)
    & raw_stands P.FilterAdd (λ k. refl)
    & none (λ s v. refl)
    & raw_stands P.MerkleBlock (λ k. refl)
    & none (λ s v. refl)
    & none (λ s v. refl)
    & raw_stands P.CmpctBlock (λ k. refl)
    & request_stands
    & raw_stands P.BlockTxn (λ k. refl)
    & root_stands
    & raw_stands P.Proof (λ k. refl)
    & raw_stands P.Claim (λ k. refl)
    & raw_stands P.Airdrop (λ k. refl)
    & tt

entry_stands : (l : List Row) (d : Row) (t : ℕ) (c : All Parts l) (k : Parts d) → Each l c → Stands d k → Stands (get_or l t d) (entry Parts l d t c k)
entry_stands [] d t c k h z = z
entry_stands (w ∷ l) d zero c k h z = h.0
entry_stands (w ∷ l) d (suc t) c k h z = entry_stands l d t c.1 k h.1 z

row_stands : (t : ℕ) → Stands (row t) (parts_of t)
unfolding row parts_of raw_places
row_stands t = entry_stands rows (raw_bytes (P.Unknown t)) t columns (parts_by (λ n v. v ∷ [])) rows_stand (raw_stands (P.Unknown t) (λ k. refl))

pub places_stand : PlacesStand
places_stand t s v last e =
    let all = (by_got (layout t) s e).1 in
    let words = (row_words t).words s v last all in
    record { bytes = (row_stands t).stand s v last all; inside = words.inside; text = words.same }
