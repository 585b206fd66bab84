-- What the writer of a type gives for what was read, said by the packet's numbers and places. Assumes nothing.
use Prim.Native.Nat.{ℕ, ◌+◌, ◌-◌, ◌*◌, ◌≤◌}
use mathlib.Core.Path.{◌≡◌, refl, sym, ap, ap₂, subst, ◌∙◌}
use mathlib.Core.Bool.{Bool, true, false}
use mathlib.Core.List.{List, [], ◌++◌}
use native.Mathlib.Omega.{arith}
use native.Mathlib.Nat.{zero-add}
use lib.ListN.{length, get_or, take, drop, length-append, length-take, length-drop}
use lib.Seq.{take_all, take-append_seam, drop-append_seam}
use borrow.Author.Tests.{le-leb}
use Rattle.std.specs.Prelude.{Result, Ok, Err, Some, None, is_some, replicate}
use Rattle.std.specs.Option.{unwrap_or}
use Rattle.hns_refusals.specs.declared.Refusal.{Refusal}
use Rattle.hns_refusals.specs.Limits.{max_payload, max_addresses, max_inventory, max_headers, block_header_size}
use Rattle.hns_refusals.specs.Refusals.{address_field, inventory_field, header_field}
use Rattle.hns_encoding.specs.Bytes.{choose, Bytes, part, Outcome, got, stop, to_end, raw_at}
use Rattle.hns_encoding.specs.Compact.{compact_bytes}
use Rattle.hns_encoding.specs.Format.{Format, raw, nothing, whole, counted, Value, read, write, write_all, Fit, values_at}
use Rattle.hns_encoding.specs.Put.{splice}
use Rattle.hns_encoding.proofs.Forward.{forward}
use Rattle.hns_encoding.proofs.Blocks.{length_all}
use Rattle.hns_encoding.proofs.Outcomes.{to_end_got, bytes_got}
use Rattle.hns_encoding.proofs.Reading.{raw_there}
use Rattle.hns_encoding.proofs.Rewritten.{rewritten}
use Rattle.hns_header_consensus.specs.Layout.{header}
use Rattle.hns_p2p_types.proofs.Payloads.{by_reads}
use Rattle.hns_p2p_types.specs.declared.Span.{Span}
use Rattle.hns_p2p_types.specs.declared.Packet.{Packet}
use Rattle.hns_p2p_types.specs.declared.Packet.TheVariants as P
use Rattle.hns_p2p_types.specs.Protocol.{address, addresses, inventory_item, inventory, locator, headers, version, reject, carries_hash, getblocktxn, getproof}
use Rattle.hns_p2p_types.specs.Packets.{address_at, span_at, items_at, version_packet, reject_packet, Row, rows, raw_bytes, row, layout, ◌&◌, texted, Answer}
use Rattle.hns_p2p_rights.specs.Terms.{Terms}
use Rattle.hns_p2p_admission.specs.Reading.{read_under, read_packet_under}
use Rattle.hns_p2p_admission.proofs.Admitted.{under_got}
use Rattle.hns_p2p_lists.proofs.Listed.{list_stands}
use Rattle.hns_p2p_packet.proofs.Texts.{flat_got}
use Rattle.hns_p2p_laws.specs.Places.{hash_place, raw_places, rejected_part, columns, parts_of, standing}
use Rattle.hns_p2p_laws.proofs.Places.{places_stand}
use Rattle.hns_p2p_frame.specs.Frame.{Written}
use Rattle.hns_p2p_block_puts.specs.declared.VersionFields.{VersionFields}
use Rattle.hns_p2p_writer.specs.Writing.{exit}
use Rattle.hns_p2p_writer.specs.Writers.{gives_version, gives_empty, gives_nonce, gives_addr, gives_inventory, gives_locator, gives_headers, gives_reject, gives_fee_filter, gives_send_cmpct, gives_get_block_txn, gives_get_proof, gives_raw}
use Rattle.hns_p2p_wire.specs.Table.{Writer, by, writers, writer, flat_of, flat_addresses, address_fields, version_fields, hash_of}
use Rattle.hns_p2p_wire.specs.Demand3.{rewriting, rewriting_under}
use Rattle.hns_p2p_wire.specs.NotKept.{Keeping}
use Rattle.hns_p2p_wire.proofs.Demand3.{front_is, Claim, EachRow, of_type}
use Rattle.hns_p2p_wire.proofs.NotKept.{whole_kept}
use Rattle.hns_p2p_fields.specs.Fields.{address_fields_in, version_fields_in, hash_in}
use Rattle.hns_p2p_rewrite.proofs.Fields.{fields_there}

-- of a packet, its payload s, the output x for its text and an output o: what the call gives that the code makes for it is w
abbrev pub As : Packet → List ℕ → List ℕ → List ℕ → Written → Type 0
As (P.Version v) s x o w = gives_version (version_fields_in s v) (take v.agent.length x) o ≡ w
As (P.Reject r) s x o w = gives_reject r.message r.code (take r.reason.length x) (is_some r.hash) (unwrap_or (hash_in s r.hash) (replicate 32 0)) o ≡ w
As (P.Addr i) s x o w = (i.count ≤ max_addresses) × (i.first + i.count * 88 ≤ length s) × (gives_addr (flat_addresses (values_at address _ i.count s i.first)) o ≡ w)
As (P.Inv i) s x o w = gives_inventory (drop i.first s) o ≡ w
As (P.GetData i) s x o w = gives_inventory (drop i.first s) o ≡ w
As (P.NotFound i) s x o w = gives_inventory (drop i.first s) o ≡ w
As (P.GetBlocks l) s x o w = gives_locator (drop l.locator.first (take l.stop s)) (raw_at 32 s l.stop) o ≡ w
As (P.GetHeaders l) s x o w = gives_locator (drop l.locator.first (take l.stop s)) (raw_at 32 s l.stop) o ≡ w
As (P.Headers i) s x o w = gives_headers (drop i.first s) o ≡ w
As P.Verack s x o w = gives_empty o ≡ w
As P.GetAddr s x o w = gives_empty o ≡ w
As P.SendHeaders s x o w = gives_empty o ≡ w
As P.Mempool s x o w = gives_empty o ≡ w
As P.FilterClear s x o w = gives_empty o ≡ w
As (P.Ping n) s x o w = gives_nonce n o ≡ w
As (P.Pong n) s x o w = gives_nonce n o ≡ w
As (P.FeeFilter n) s x o w = gives_fee_filter n o ≡ w
As (P.SendCmpct m n) s x o w = gives_send_cmpct m n o ≡ w
As (P.GetBlockTxn q) s x o w = rewriting 24 s o ≡ w
As (P.GetProof p) s x o w = gives_get_proof (raw_at 32 s 0) (raw_at 32 s 32) o ≡ w
As (P.Block k) s x o w = gives_raw s o ≡ w
As (P.Tx k) s x o w = gives_raw s o ≡ w
As (P.FilterLoad k) s x o w = gives_raw s o ≡ w
As (P.FilterAdd k) s x o w = gives_raw s o ≡ w
As (P.MerkleBlock k) s x o w = gives_raw s o ≡ w
As (P.CmpctBlock k) s x o w = gives_raw s o ≡ w
As (P.BlockTxn k) s x o w = gives_raw s o ≡ w
As (P.Proof k) s x o w = gives_raw s o ≡ w
As (P.Claim k) s x o w = gives_raw s o ≡ w
As (P.Airdrop k) s x o w = gives_raw s o ≡ w
As (P.Unknown t k) s x o w = gives_raw s o ≡ w

-- and of an answer: a refusal is the call's
abbrev pub As-answer : Result Packet Refusal → List ℕ → List ℕ → List ℕ → Written → Type 0
As-answer (Ok p) s x o w = As p s x o w
As-answer (Err r) s x o w = exit (Err r) o ≡ w

-- of a row and its writer: its text is short, and with it at the front of x the call is as said
pub record Row-as (w : Row) (c : Writer w) (s : List ℕ) (v : Value (w.layout (length s))) : Type 0 where
  pub few : length (w.text s v) ≤ 255
  pub as_said : (x o : List ℕ) → take (length (w.text s v)) x ≡ w.text s v → As (w.packet s v) s x o (c.writes (length s) v o)

abbrev Says : Claim
Says w c = (s : List ℕ) → Bytes s → length s ≤ max_payload → (v : Value (w.layout (length s))) (last : ℕ) → to_end (read (w.layout (length s))) s ≡ got v last → Row-as w c s v

untexted : {w : Row} {c : Writer w} {s : List ℕ} {v : Value (w.layout (length s))} → w.text s v ≡ [] → ((x o : List ℕ) → As (w.packet s v) s x o (c.writes (length s) v o)) → Row-as w c s v
untexted e h = record { few = rw e (omega arith); as_said = λ x o q. h x o }

-- ---- bytes as they stand

raw_said : (s : List ℕ) {v : List ℕ} {last : ℕ} → to_end (read (raw (length s))) s ≡ got v last → s ≡ v
unfolding read
raw_said s e = sym ((bytes_got (length s) s 0 (to_end_got (read (raw (length s))) s e).0).0 ∙ take_all (length s) s (omega arith))

raw_row : (packet : Span → Packet) → ((x o : List ℕ) (k : Span) (s : List ℕ) (w : Written) → gives_raw s o ≡ w → As (packet k) s x o w) → Says (raw_bytes packet) (by (λ n v. gives_raw v))
raw_row packet h s bs few v last e = untexted refl (λ x o. h x o (span_at 0 v) s (gives_raw v o) (ap (λ (y : List ℕ). gives_raw y o) (raw_said s e)))

-- so many bytes that stand at a place
pub raw_is : (n : ℕ) (s : List ℕ) (p : ℕ) {v : List ℕ} → part s p n ≡ v → length v ≡ n → raw_at n s p ≡ v
raw_is n s p e h = raw_there n s p (omega (arith, h, ap length e, length-take n (drop p s), length-drop p s)) ∙ e

-- ---- payloads that are kept as they are

module _ (f : Format) (k : Keeping f) (s : List ℕ) (bs : Bytes s) (v : Value f) (last : ℕ) (e : to_end (read f) s ≡ got v last) where
  kept_said : write f v ≡ s
  kept_said = (rewritten f s bs v last e).zeroed ∙ whole_kept f k s bs v last e

pub fit_of : (f : Format) (s : List ℕ) → Bytes s → (v : Value f) (last : ℕ) → to_end (read f) s ≡ got v last → Fit f v
fit_of f s bs v last e = (forward f s bs 0 (omega arith) v last (to_end_got (read f) s e).0).fit

-- the items after a count
flat_said : (limit field : ℕ) (f : Format) (v : List (Value f)) (s : List ℕ) → write (counted limit field f) v ≡ s → drop (0 + length (compact_bytes (length v))) s ≡ flat_of f v
unfolding write
flat_said limit field f v s e = rw (zero-add, ← e) (drop-append_seam (compact_bytes (length v)) (flat_of f v))

inventory_said : (s : List ℕ) → Bytes s → (v : Value inventory) (last : ℕ) → to_end (read inventory) s ≡ got v last → (o : List ℕ) → gives_inventory (drop (items_at 0 v).first s) o ≡ gives_inventory (flat_of inventory_item v) o
unfolding Keeping
inventory_said s bs v last e o = ap (λ (y : List ℕ). gives_inventory y o) (flat_said max_inventory inventory_field inventory_item v s (kept_said inventory _ s bs v last e))

headers_said : (s : List ℕ) → Bytes s → (v : Value headers) (last : ℕ) → to_end (read headers) s ≡ got v last → (o : List ℕ) → gives_headers (drop (items_at 0 v).first s) o ≡ gives_headers (flat_of (whole block_header_size header) v) o
unfolding Keeping
headers_said s bs v last e o = ap (λ (y : List ℕ). gives_headers y o) (flat_said max_headers header_field (whole block_header_size header) v s (kept_said headers _ s bs v last e))

-- hashes, and a stop hash after them
stop_said : (x y s : List ℕ) → x ++ y ≡ s → length y ≡ 32 → (take (length s - 32) s ≡ x) × (raw_at 32 s (length s - 32) ≡ y)
stop_said x y s e h =
    let place : length s - 32 ≡ length x = omega (arith, h, ap length e, length-append x y) in
    let front : take (length x) s ≡ x = rw (← e) (take-append_seam x y) in
    let back : part s (length x) 32 ≡ y = rw (← e, drop-append_seam x y) (take_all 32 y (omega arith)) in
    rw place (front, raw_is 32 s (length x) back h)

locator_said : (s : List ℕ) → Bytes s → (v : Value locator) (last : ℕ) → to_end (read locator) s ≡ got v last
    → (o : List ℕ) → gives_locator (drop (items_at 0 v.0).first (take (length s - 32) s)) (raw_at 32 s (length s - 32)) o ≡ gives_locator (flat_of (raw 32) v.0) v.1 o
unfolding Keeping write
locator_said s bs v last e o =
    let fit = fit_of locator s bs v last e in
    let ends = stop_said (compact_bytes (length v.0) ++ flat_of (raw 32) v.0) v.1 s (kept_said locator _ s bs v last e) fit.1 in
    rw (ends.0, ends.1, zero-add, drop-append_seam (compact_bytes (length v.0)) (flat_of (raw 32) v.0))

-- ---- addresses

addr_said : (s : List ℕ) → Bytes s → (v : Value addresses) (last : ℕ) → to_end (read addresses) s ≡ got v last
    → (o : List ℕ) → As (P.Addr (items_at 0 v)) s [] o (gives_addr (flat_addresses v) o)
unfolding write
addr_said s bs v last e o =
    let fit = fit_of addresses s bs v last e in
    let whole_length = (rewritten addresses s bs v last e).as_long in
    let items-length = length_all address _ v fit.2 in (
      fit.0,
      omega (arith, whole_length, items-length, length-append (compact_bytes (length v)) (write_all (write address) v)),
      ap (λ (vs : List (Value address)). gives_addr (flat_addresses vs) o) (sym (list_stands max_addresses address_field address _ s bs v last (to_end_got (read addresses) s e).0)),
    )

-- ---- fixed places

proof_said : (s : List ℕ) (v : Value getproof) (last : ℕ) → to_end (read getproof) s ≡ got v last → (o : List ℕ) → gives_get_proof (raw_at 32 s 0) (raw_at 32 s 32) o ≡ gives_get_proof v.0 v.1 o
proof_said s v last e o =
    let g = flat_got getproof _ s 0 (to_end_got (read getproof) s e).0 in
    rw (raw_there 32 s 0 (omega (arith, g.1)), raw_there 32 s 32 (omega (arith, g.1))) (ap (λ (w : Value getproof). gives_get_proof w.0 w.1 o) g.0)

version_said : (s : List ℕ) → Bytes s → (v : Value version) (last : ℕ) → to_end (read version) s ≡ got v last → version_fields_in s (version_packet v) ≡ version_fields v
unfolding version_fields_in
version_said s bs v last e =
    let g = flat_got version _ s 0 (to_end_got (read version) s e).0 in
    let remote = subst (λ (a : Value address). address_fields_in s (address_at 20 a) ≡ address_fields a) (ap (λ (w : Value version). w.1.1.1.1.0) g.0) (fields_there s bs 20 (omega (arith, g.1))) in
    rw remote

hash_said : (b : Bool) (h : Value (choose b (raw 32) nothing)) (s : List ℕ) (p : ℕ) → standing s (hash_place (choose b (Some p) None)) ≡ rejected_part b h → Fit (choose b (raw 32) nothing) h
    → (is_some (choose b (Some p) None) ≡ b) × (unwrap_or (hash_in s (choose b (Some p) None)) (replicate 32 0) ≡ hash_of b h)
hash_said true h s p e fit = (refl, raw_is 32 s p (ap (λ (l : List (List ℕ)). get_or l 0 []) e) fit)
hash_said false h s p e fit = (refl, refl)

reject_said : (s : List ℕ) → Bytes s → length s ≤ max_payload → (v : Value reject) (last : ℕ) → to_end (read reject) s ≡ got v last
    → (is_some (reject_packet s v).hash ≡ carries_hash v.0) × (unwrap_or (hash_in s (reject_packet s v).hash) (replicate 32 0) ≡ hash_of (carries_hash v.0) v.1.1.1)
unfolding row rows raw_places columns parts_of
reject_said s bs h v last e =
    hash_said (carries_hash v.0) v.1.1.1 s (length s - 32) (places_stand 15 s v last (by_reads (layout 15) s h e)).bytes (fit_of reject s bs v last e).1.1.1

pub txn_said : (s : List ℕ) → length s ≤ max_payload → (v : Value getblocktxn) (last : ℕ) → to_end (read getblocktxn) s ≡ got v last → (o : List ℕ) → rewriting 24 s o ≡ gives_get_block_txn v.0 v.1 o
unfolding rewriting row rows writer writers
txn_said s h v last e o = rw (by_reads (layout 24) s h e)

-- ---- type by type

said : EachRow Says rows writers
unfolding rows writers
said =
    (λ s bs h v last e. record {
      few = (fit_of version s bs v last e).1.1.1.1.1.1.0.0;
      as_said = λ x o q. ap₂ (λ (f : VersionFields) (a : List ℕ). gives_version f a o) (version_said s bs v last e) q;
    })
    & (λ s bs h v last e. untexted refl (λ x o. refl))
    & (λ s bs h v last e. untexted refl (λ x o. refl))
    & (λ s bs h v last e. untexted refl (λ x o. refl))
    & (λ s bs h v last e. untexted refl (λ x o. refl))
    & (λ s bs h v last e. untexted refl (λ x o. addr_said s bs v last e o))
    & (λ s bs h v last e. untexted refl (λ x o. inventory_said s bs v last e o))
    & (λ s bs h v last e. untexted refl (λ x o. inventory_said s bs v last e o))
    & (λ s bs h v last e. untexted refl (λ x o. inventory_said s bs v last e o))
    & (λ s bs h v last e. untexted refl (λ x o. locator_said s bs v last e o))
    & (λ s bs h v last e. untexted refl (λ x o. locator_said s bs v last e o))
    & (λ s bs h v last e. untexted refl (λ x o. headers_said s bs v last e o))
    & (λ s bs h v last e. untexted refl (λ x o. refl))
    & raw_row P.Block (λ x o k s w e. e)
    & raw_row P.Tx (λ x o k s w e. e)
    & (λ s bs h v last e. record {
      few = (fit_of reject s bs v last e).1.1.0.0;
      as_said = λ x o q. let r = reject_said s bs h v last e in rw (r.0, r.1, q);
    })
    & (λ s bs h v last e. untexted refl (λ x o. refl))
    & raw_row P.FilterLoad (λ x o k s w e. e)
    & raw_row P.FilterAdd (λ x o k s w e. e)
    & (λ s bs h v last e. untexted refl (λ x o. refl))
    & raw_row P.MerkleBlock (λ x o k s w e. e)
    & (λ s bs h v last e. untexted refl (λ x o. refl))
    & (λ s bs h v last e. untexted refl (λ x o. refl))
    & raw_row P.CmpctBlock (λ x o k s w e. e)
    & (λ s bs h v last e. untexted refl (λ x o. txn_said s h v last e o))
    & raw_row P.BlockTxn (λ x o k s w e. e)
    & (λ s bs h v last e. untexted refl (λ x o. proof_said s v last e o))
    & raw_row P.Proof (λ x o k s w e. e)
    & raw_row P.Claim (λ x o k s w e. e)
    & raw_row P.Airdrop (λ x o k s w e. e)
    & tt

pub row_as : (t : ℕ) → Says (row t) (writer t)
row_as t = of_type Says t (raw_row (P.Unknown t) (λ x o k s w e. e)) said

-- ---- the code's answer

-- a payload that was read with an output of 255 bytes for its text
module _ (u : Terms) (t : ℕ) (s : List ℕ) (bs : Bytes s) (z : List ℕ) (room : length z ≡ 255) (o : List ℕ) where
  abbrev answer : Answer
  answer = read_packet_under u t s z

  by_reading : (q : Outcome (Value (layout t (length s)))) → read_under u t s ≡ q → As-answer answer.packet s answer.text o (rewriting_under u t s o)
  unfolding read_packet_under rewriting_under texted
  by_reading (stop r) e = rw e refl
  by_reading (got v last) e =
      let g = under_got u t s e in
      let r = row_as t s bs g.small v last g.whole in
      let short : length ((row t).text s v) ≤ length z = omega (arith, r.few) in
      rw (e, le-leb (length ((row t).text s v)) (length z) short) (r.as_said (splice z 0 ((row t).text s v)) o (front_is ((row t).text s v) z short))

  module _ {a : Result Packet Refusal} {x : List ℕ} (e : a ≡ answer.packet) (q : x ≡ answer.text) where
    as_read : As-answer a s x o (rewriting_under u t s o)
    as_read = rw (e, q) (by_reading (read_under u t s) refl)

    pub as_packet : {p : Packet} → a ≡ Ok p → As p s x o (rewriting_under u t s o)
    as_packet is = rw is at as_read

    pub as_refused : {r : Refusal} → a ≡ Err r → exit (Err r) o ≡ rewriting_under u t s o
    as_refused is = rw is at as_read
