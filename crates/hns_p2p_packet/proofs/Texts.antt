-- Texts: where a packet's agent or reason stands, and how it goes to an output. Assumes nothing.
use Prim.Native.Nat.{ℕ, ◌+◌, ◌%◌, ◌≤◌, ◌<◌}
use mathlib.Core.Path.{◌≡◌, refl, sym, ap, ◌∙◌, subst, subst₂}
use mathlib.Core.List.{List, [], ◌∷◌, map, map-append}
use mathlib.Core.Logic.{⊎_elim}
use native.Mathlib.Omega.{arith}
use native.Mathlib.Nat.{zero-add}
use lib.ListN.{length, get_or, set, length-set}
use borrow.Author.Tests.{le-leb, lt-leb}
use Rattle.std.specs.Prelude.{Result, Ok, Err, take}
use lib.Seq.{take_all}
use Rattle.hns_refusals.specs.declared.Refusal.{Refusal}
use Rattle.hns_refusals.specs.Refusals.{output_short}
use Rattle.hns_encoding.specs.Bytes.{Outcome, got, stop, part, left, number_at, to_end}
use Rattle.hns_encoding.specs.Format.{Format, Value, read, low7, sum, All, Flat, widths_at, value_at}
use Rattle.hns_encoding.specs.Put.{splice}
use Rattle.hns_encoding.proofs.Numbers.{lt_or_ge, part_add, byte_part}
use Rattle.hns_encoding.proofs.Outcomes.{to_end_got}
use Rattle.hns_encoding.proofs.Puts.{splice_none, splice_append, splice_byte}
use Rattle.hns_p2p_types.specs.declared.Span.{Span}
use Rattle.hns_p2p_types.specs.declared.Packet.{Packet}
use Rattle.hns_p2p_types.specs.declared.Packet.TheVariants as P
use Rattle.hns_p2p_types.specs.Protocol.{version, reject}
use Rattle.hns_p2p_types.specs.Packets.{◌&◌, entry, Row, worded, raw_bytes, version_packet, reject_packet, agent_of, reason_of, rows, row, layout, answered, Answer, texted, answer_by}
use Rattle.hns_p2p_rights.specs.Terms.{Terms}
use Rattle.hns_p2p_admission.specs.Reading.{read_under, packet_under, read_packet_under}
use Rattle.hns_p2p_admission.proofs.Admitted.{under_got}
use Rattle.hns_p2p_packet.specs.Spans.{no_span, text_span}
use Rattle.hns_encoding.proofs.Blocks.{block}
use Rattle.hns_p2p_blocks.proofs.Packets.{text_length, reject_flat}

-- ---- masked bytes to the output's front

-- i are masked
pub record Masked (o bs o' : List ℕ) (i : ℕ) : Type 0 where
  pub long : length o' ≡ length o
  pub same : o' ≡ splice o 0 (map low7 (take i bs))

pub mask_none : (o bs : List ℕ) → Masked o bs o 0
mask_none o bs = record { long = refl; same = sym (splice_none o 0) }

pub mask_next : (o bs : List ℕ) (i : ℕ) {o' : List ℕ} → Masked o bs o' i → i < length bs → Masked o bs (set o' i (get_or bs i 0 % 128)) (i + 1)
mask_next o bs i t h =
    let long : length (map low7 (part bs 0 i)) ≡ i = text_length bs 0 i (omega arith) in
    let next : 0 + i ≡ i = omega arith in
    let byte : part bs (0 + i) 1 ≡ get_or bs i 0 ∷ [] = rw next (byte_part bs i h) in
    record {
      long = length-set _ _ _ ∙ t.long;
      same = rw (part_add bs 0 i 1, byte, map-append low7 (part bs 0 i) (get_or bs i 0 ∷ []), splice_append, zero-add, long, ← t.same, splice_byte);
    }

pub mask_all : (o bs : List ℕ) (i : ℕ) {o' : List ℕ} → Masked o bs o' i → length bs ≤ i → o' ≡ splice o 0 (map low7 bs)
mask_all o bs i t h = rw (take_all i bs h) at t.same

-- ---- where a text stands

-- x is what stands at the span, each byte without its top bit
pub record Stands (s : List ℕ) (span : Span) (x : List ℕ) : Type 0 where
  pub inside : span.start + span.length ≤ length s
  pub same : x ≡ map low7 (part s span.start span.length)

pub record Words (w : Row) : Type 0 where
  pub words : (s : List ℕ) (v : Value (w.layout (length s))) (last : ℕ) → to_end (read (w.layout (length s))) s ≡ got v last → Stands s (text_span (w.packet s v)) (w.text s v)

nowhere : (s : List ℕ) → Stands s no_span []
nowhere s = record { inside = omega arith; same = refl }

plain : {w : Row} → ((s : List ℕ) (v : Value (w.layout (length s))) → no_span ≡ text_span (w.packet s v)) → ((s : List ℕ) (v : Value (w.layout (length s))) → [] ≡ w.text s v) → Words w
plain a b = record { words = λ s v last e. subst₂ (λ (k : Span) (x : List ℕ). Stands s k x) (a s v) (b s v) (nowhere s) }

-- a block that read is what stands at its places
pub flat_got : (f : Format) (x : Flat f) (s : List ℕ) (p : ℕ) {v : Value f} {last : ℕ} → read f s p ≡ got v last → (value_at f x s p ≡ v) × (sum (widths_at f s p) ≤ left s p) × (last ≡ p + sum (widths_at f s p))
flat_got f x s p e =
    ⊎_elim (λ h. let bad = (block f x s p).1 h in let z : ◌≡◌ {A = ℕ} 0 1 = cc in absurd (omega arith))
    (λ h. let good = (block f x s p).0 h in (cc, h, cc)) (lt_or_ge (left s p) (sum (widths_at f s p)))

text_stands : (s : List ℕ) (p n : ℕ) → p + n ≤ length s → Stands s (record { start = p; length = length (map low7 (part s p n)) }) (map low7 (part s p n))
text_stands s p n h =
    let long = text_length s p n h in
    record { inside = omega arith; same = ap (λ (k : ℕ). map low7 (part s p k)) (sym long) }

agent_stands : Words (worded version (λ s v. P.Version (version_packet v)) agent_of)
unfolding text_span
agent_stands = record {
  words = λ s v last e.
      let g = flat_got version _ s 0 (to_end_got (read version) s e).0 in
      subst (λ (u : Value version). Stands s (record { start = 117; length = length (agent_of u) }) (agent_of u)) g.0 (text_stands s 117 (number_at 1 s 116) (omega (arith, g.1)));
}

reason_stands : Words (worded reject (λ s v. P.Reject (reject_packet s v)) reason_of)
unfolding text_span
reason_stands = record {
  words = λ s v last e.
      let g = flat_got reject reject_flat s 0 (to_end_got (read reject) s e).0 in
      subst (λ (u : Value reject). Stands s (record { start = 3; length = length (reason_of u) }) (reason_of u)) g.0 (text_stands s 3 (number_at 1 s 2) (omega (arith, g.1)));
}

all_words : All Words rows
unfolding rows text_span
all_words =
    agent_stands
    & plain (λ s v. refl) (λ s v. refl)
    & plain (λ s v. refl) (λ s v. refl)
    & plain (λ s v. refl) (λ s v. refl)
    & plain (λ s v. refl) (λ s v. refl)
    & plain (λ s v. refl) (λ s v. refl)
    & plain (λ s v. refl) (λ s v. refl)
    & plain (λ s v. refl) (λ s v. refl)
    & plain (λ s v. refl) (λ s v. refl)
    & plain (λ s v. refl) (λ s v. refl)
    & plain (λ s v. refl) (λ s v. refl)
    & plain (λ s v. refl) (λ s v. refl)
    & plain (λ s v. refl) (λ s v. refl)
    & plain (λ s v. refl) (λ s v. refl)
    & plain (λ s v. refl) (λ s v. refl)
    & reason_stands
    & plain (λ s v. refl) (λ s v. refl)
    & plain (λ s v. refl) (λ s v. refl)
    & plain (λ s v. refl) (λ s v. refl)
    & plain (λ s v. refl) (λ s v. refl)
    & plain (λ s v. refl) (λ s v. refl)
    & plain (λ s v. refl) (λ s v. refl)
    & plain (λ s v. refl) (λ s v. refl)
    & plain (λ s v. refl) (λ s v. refl)
    & plain (λ s v. refl) (λ s v. refl)
    & plain (λ s v. refl) (λ s v. refl)
    & plain (λ s v. refl) (λ s v. refl)
    & plain (λ s v. refl) (λ s v. refl)
    & plain (λ s v. refl) (λ s v. refl)
    & plain (λ s v. refl) (λ s v. refl)
    & tt

pub row_words : (t : ℕ) → Words (row t)
unfolding row text_span
row_words t = entry Words rows (raw_bytes (P.Unknown t)) t all_words (plain (λ s v. refl) (λ s v. refl))

-- ---- what an output does to a reading

-- the packet's text stands at its span, and the answer is the packet with that text
pub record Texts (u : Terms) (t : ℕ) (s : List ℕ) (packet : Packet) : Type 0 where
  pub text : List ℕ
  pub stands : Stands s (text_span packet) text
  pub says : (o : List ℕ) → texted packet text o ≡ read_packet_under u t s o

module _ (u : Terms) (t : ℕ) (s : List ℕ) {read : Result Packet Refusal} (e : read ≡ packet_under u t s) where
  pub texts : {packet : Packet} → read ≡ Ok packet → Texts u t s packet
  unfolding packet_under read_packet_under
  texts {packet} g = go (read_under u t s) refl
    where
      go : (o : Outcome (Value (layout t (length s)))) → read_under u t s ≡ o → Texts u t s packet
      go (got v last) h =
          let is : Ok packet ≡ Ok ((row t).packet s v) = sym g ∙ e ∙ ap (answered ((row t).packet s)) h in
          let same : (row t).packet s v ≡ packet = cc in
          record {
            text = (row t).text s v;
            stands = subst (λ (p : Packet). Stands s (text_span p) ((row t).text s v)) same ((row_words t).words s v last (under_got u t s h).whole);
            says = λ o. ap (λ (p : Packet). texted p ((row t).text s v) o) (sym same) ∙ sym (ap (λ (q : Outcome (Value (layout t (length s)))). answer_by ((row t).packet s) ((row t).text s) q o) h);
          }
      go (stop r) h = let is : Ok packet ≡ Err r = sym g ∙ e ∙ ap (answered ((row t).packet s)) h in cc

  -- nothing is stored where the packet is refused
  refused : {r : Refusal} → read ≡ Err r → (o : List ℕ) → record { packet = Err r; text = o } ≡ read_packet_under u t s o
  unfolding packet_under read_packet_under
  refused {r} g o = go (read_under u t s) refl
    where
      go : (x : Outcome (Value (layout t (length s)))) → read_under u t s ≡ x → record { packet = Err r; text = o } ≡ answer_by ((row t).packet s) ((row t).text s) (read_under u t s) o
      go (got v last) h = let is : Err r ≡ Ok ((row t).packet s v) = sym g ∙ e ∙ ap (answered ((row t).packet s)) h in cc
      go (stop q) h =
          let is : Err r ≡ Err q = sym g ∙ e ∙ ap (answered ((row t).packet s)) h in
          let same : r ≡ q = cc in
          rw (h, same)

  pub refused_packet : {r : Refusal} → read ≡ Err r → (o : List ℕ) → Err r ≡ (read_packet_under u t s o).packet
  refused_packet g o = ap (λ (x : Answer). x.packet) (refused g o)

  pub refused_text : {r : Refusal} → read ≡ Err r → (o : List ℕ) → o ≡ (read_packet_under u t s o).text
  refused_text g o = ap (λ (x : Answer). x.text) (refused g o)

  -- the span of a packet's text, and the answers by whether the output is long enough
  module _ {packet : Packet} (g : read ≡ Ok packet) {span : Span} (es : span ≡ text_span packet) where
    there : Stands s span (texts g).text
    there = subst (λ (k : Span). Stands s k (texts g).text) (sym es) (texts g).stands

    pub text_inside : span.start + span.length ≤ length s
    text_inside = there.inside

    size : length (texts g).text ≡ span.length
    size = ap length there.same ∙ text_length s span.start span.length there.inside

    short : (o : List ℕ) → length o < span.length → record { packet = Err (output_short span.length); text = o } ≡ read_packet_under u t s o
    unfolding texted
    short o h =
        let over : length o < length (texts g).text = omega (arith, size) in
        rw (← size) (rw (lt-leb (length (texts g).text) (length o) over) at ((texts g).says o))

    pub short_packet : (o : List ℕ) → length o < span.length → Err (output_short span.length) ≡ (read_packet_under u t s o).packet
    short_packet o h = ap (λ (x : Answer). x.packet) (short o h)

    pub short_text : (o : List ℕ) → length o < span.length → o ≡ (read_packet_under u t s o).text
    short_text o h = ap (λ (x : Answer). x.text) (short o h)

    fits : (o : List ℕ) → span.length ≤ length o → record { packet = Ok packet; text = splice o 0 (texts g).text } ≡ read_packet_under u t s o
    unfolding texted
    fits o h =
        let fits : length (texts g).text ≤ length o = omega (arith, size) in
        rw (le-leb (length (texts g).text) (length o) fits) at ((texts g).says o)

    pub fits_packet : (o : List ℕ) → span.length ≤ length o → Ok packet ≡ (read_packet_under u t s o).packet
    fits_packet o h = ap (λ (x : Answer). x.packet) (fits o h)

    pub fits_text : (o : List ℕ) → span.length ≤ length o → {n : ℕ} {o' : List ℕ} → n ≡ span.length → o' ≡ splice o 0 (map low7 (part s span.start n)) → o' ≡ (read_packet_under u t s o).text
    fits_text o h en e = e ∙ (ap (λ (k : ℕ). splice o 0 (map low7 (part s span.start k))) en ∙ (ap (splice o 0) (sym there.same) ∙ ap (λ (x : Answer). x.text) (fits o h)))
