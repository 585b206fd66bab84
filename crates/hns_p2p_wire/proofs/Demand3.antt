-- Demand 3 whole. Assumes nothing.
use Prim.Native.Nat.{ℕ, zero, suc, ◌+◌, ◌-◌, ◌^◌, ◌≤◌, ◌<◌}
use mathlib.Core.Path.{◌≡◌, refl, sym, ap, ap₂, ◌∙◌, subst}
use mathlib.Core.List.{List, [], ◌∷◌}
use mathlib.Core.Logic.{⊎_elim}
use native.Mathlib.Omega.{arith}
use lib.ListN.{length, get_or, take, drop}
use lib.Seq.{take-append_seam}
use lib.IntN.{pos, neg_ℤ}
use borrow.Author.Tests.{le-leb, lt-ltb, le-ltb}
use Rattle.std.specs.Prelude.{Some, None, Result, Ok}
use Rattle.hns_encoding.specs.Bytes.{choose, Bytes, Outcome, got, stop, to_end}
use Rattle.hns_encoding.specs.Format.{Format, nothing, num, raw, Value, read, write, Fit, All}
use Rattle.hns_encoding.specs.Put.{splice}
use Rattle.hns_encoding.proofs.Numbers.{lt_or_ge}
use Rattle.hns_encoding.proofs.Puts.{splice_fits}
use Rattle.hns_encoding.proofs.Rewritten.{rewritten}
use Rattle.hns_p2p_types.proofs.Payloads.{by_got, by_reads}
use Rattle.hns_p2p_types.specs.declared.Packet.{Packet}
use Rattle.hns_p2p_types.specs.declared.Packet.TheVariants as P
use Rattle.hns_p2p_types.specs.Protocol.{carries_hash, Layout, read_by}
use Rattle.hns_p2p_types.specs.Packets.{span_at, items_at, signed, signed_bits, version_packet, agent_of, reason_of, Row, rows, raw_bytes, row, layout, ◌&◌, entry, answered, packet_of, answer_by, texted, read_packet, Answer}
use Rattle.hns_p2p_rights.specs.Terms.{Terms}
use Rattle.hns_p2p_admission.specs.Admission.{admitted}
use Rattle.hns_p2p_admission.specs.Reading.{read_under, read_packet_under}
use Rattle.hns_p2p_admission.proofs.Admitted.{under_got, readings}
use Rattle.hns_p2p_stream.proofs.Demand3.{demand_3}
use Rattle.hns_p2p_frame.specs.Frame.{Written}
use Rattle.hns_refusals.specs.declared.Refusal.{Refusal}
use Rattle.hns_p2p_writer.specs.Writing.{writing}
use Rattle.hns_p2p_writer.specs.Writers.{gives_raw}
use Rattle.hns_p2p_wire.proofs.Given.{Given, indexes_given, addresses_given, inventory_given, locator_given, headers_given, version_given, reject_given, given_again}
use Rattle.hns_p2p_wire.specs.Table.{Writer, by, writers, writer}
use Rattle.hns_p2p_wire.specs.Demand3.{reading, Again, Rewrites, from_value, SameAnswer, rewriting, OneCall, rewriting_under, AgainUnder, Demand3Whole}
use Rattle.hns_p2p_wire.specs.NotKept.{zeroed}
use Rattle.hns_p2p_wire.proofs.NotKept.{not_kept}

-- ---- one writer

-- what a writer is given for the value v: arguments that pass its tests, and of which it writes v
record Gives (f : Format) (v : Value f) (end : List ℕ → Written) : Type 0 where
  tests : Result (Unit {0}) Refusal
  value : Value f
  contract : (o : List ℕ) → writing tests (write f value) o ≡ end o
  given : Fit f v → Given f tests value v

pub front_is : (x o : List ℕ) → length x ≤ length o → take (length x) (splice o 0 x) ≡ x
front_is x o h = rw (splice_fits o 0 x (omega arith)) (take-append_seam x (drop (0 + length x) o))

reads_small : (l : Layout) (x : List ℕ) (n : ℕ) → length x ≡ n → n ≤ 8000000 → (v : Value (l n)) → to_end (read (l n)) x ≡ got v n → ◌≡◌ {A = (m : ℕ) × Outcome (Value (l m))} (reading l x) (n, got v n)
unfolding read_by
reads_small l x n e =
    subst (λ (m : ℕ). m ≤ 8000000 → (v : Value (l m)) → to_end (read (l m)) x ≡ got v m → ◌≡◌ {A = (k : ℕ) × Outcome (Value (l k))} (reading l x) (m, got v m)) e
    (λ h v r. ap (λ (u : Outcome (Value (l (length x)))). (length x, u)) (simp (le-leb _ _ h) r))

module _ (l : Layout) (s : List ℕ) (bs : Bytes s) (v : Value (l (length s))) (last : ℕ) (e : read_by l s ≡ got v last) where
  small : (length s ≤ 8000000) × (to_end (read (l (length s))) s ≡ got v last)
  small = by_got l s e

  long : length (zeroed l s) ≡ length s
  long = let r = rewritten (l (length s)) s bs v last small.1 in ap length (sym r.zeroed) ∙ r.as_long

  same_reading : reading l (zeroed l s) ≡ (length s, got v (length s))
  same_reading =
      let r = rewritten (l (length s)) s bs v last small.1 in
      reads_small l (zeroed l s) (length s) long small.0 v (rw r.zeroed at r.again)

  again : (o : List ℕ) → length s ≤ length o → (end : List ℕ → Written) → Gives (l (length s)) v end → Again l s v o (end o)
  again o k end g =
      let x = given_again (l (length s)) s bs v last small.1 g.tests g.value g.given small.0 o k ∙ g.contract o in
      let out = ap (λ (w : Written). w.output) (sym x) in
      record {
        answer = ap (λ (w : Written). w.answer) (sym x);
        output = out;
        written = ap (take (length s)) out ∙ (ap (λ (n : ℕ). take n (splice o 0 (zeroed l s))) (sym long) ∙ front_is (zeroed l s) o (omega (arith, long)));
        as_long = long;
        same = same_reading;
      }

-- ---- two's complement there and back

signed_low : (v : ℕ) → v < 2 ^ 63 → signed_bits (signed v) ≡ v
unfolding signed_bits signed
signed_low v k = rw (lt-ltb v (2 ^ 63) k)

from_negative : (m : ℕ) → 0 < m → signed_bits (neg_ℤ (pos m)) ≡ 2 ^ 64 - m
unfolding signed_bits
from_negative zero h = absurd (omega arith)
from_negative (suc m) h = refl

signed_high : (v : ℕ) → 2 ^ 63 ≤ v → v < 2 ^ 64 → signed_bits (signed v) ≡ v
unfolding signed
signed_high v k h = rw (le-ltb v (2 ^ 63) k) (from_negative (2 ^ 64 - v) (omega arith) ∙ omega arith)

bits_signed : (v : ℕ) → v < 2 ^ 64 → signed_bits (signed v) ≡ v
bits_signed v h = ⊎_elim (λ k. signed_low v k) (λ k. signed_high v k h) (lt_or_ge v (2 ^ 63))

-- ---- row by row

-- what is claimed of a row and its writer, of each row
abbrev pub Claim : Type 1
Claim = (w : Row) → Writer w → Type 0

abbrev pub EachRow : Claim → (ws : List Row) → All Writer ws → Type 0
EachRow E [] cs = Unit {0}
EachRow E (w ∷ ws) cs = E w cs.0 × EachRow E ws cs.1

look_up : (E : Claim) (ws : List Row) (cs : All Writer ws) (d : Row) (k : Writer d) (t : ℕ) → E d k → EachRow E ws cs → E (get_or ws t d) (entry Writer ws d t cs k)
look_up E [] cs d k t h hs = h
look_up E (w ∷ ws) cs d k zero h hs = hs.0
look_up E (w ∷ ws) cs d k (suc t) h hs = look_up E ws cs.1 d k t h hs.1

-- and so of the row of a type
pub of_type : (E : Claim) (t : ℕ) → E (raw_bytes (P.Unknown t)) (by (λ n v. gives_raw v)) → EachRow E rows writers → E (row t) (writer t)
unfolding row writer
of_type E t h hs = look_up E rows writers (raw_bytes (P.Unknown t)) (by (λ n v. gives_raw v)) t h hs

abbrev Each : Claim
Each w c = (n : ℕ) (v : Value (w.layout n)) → Gives (w.layout n) v (c.writes n v)

-- a writer without tests of its own
plain : (f : Format) (v : Value f) → Gives f v (λ o. writing (Ok tt) (write f v) o)
plain f v = record { tests = Ok tt; value = v; contract = λ o. refl; given = λ fit. record { same = refl; passed = refl } }

raw_bytes_fit : (n : ℕ) (v : List ℕ) → Gives (raw n) v (gives_raw v)
unfolding write
raw_bytes_fit n v = record { tests = Ok tt; value = v; contract = λ o. refl; given = λ fit. record { same = refl; passed = refl } }

each_row : EachRow Each rows writers
unfolding rows writers
each_row =
    (λ n v. record { tests = _; value = _; contract = λ o. refl; given = version_given v })
    & (λ n v. plain nothing tt)
    & (λ n v. plain (num 8) v)
    & (λ n v. plain (num 8) v)
    & (λ n v. plain nothing tt)
    & (λ n v. record { tests = _; value = _; contract = λ o. refl; given = addresses_given v })
    & (λ n v. record { tests = _; value = _; contract = λ o. refl; given = inventory_given v })
    & (λ n v. record { tests = _; value = _; contract = λ o. refl; given = inventory_given v })
    & (λ n v. record { tests = _; value = _; contract = λ o. refl; given = inventory_given v })
    & (λ n v. record { tests = _; value = _; contract = λ o. refl; given = locator_given v })
    & (λ n v. record { tests = _; value = _; contract = λ o. refl; given = locator_given v })
    & (λ n v. record { tests = _; value = _; contract = λ o. refl; given = headers_given v })
    & (λ n v. plain nothing tt)
    & raw_bytes_fit
    & raw_bytes_fit
    & (λ n v. record { tests = _; value = _; contract = λ o. refl; given = reject_given v })
    & (λ n v. plain nothing tt)
    & raw_bytes_fit
    & raw_bytes_fit
    & (λ n v. plain nothing tt)
    & raw_bytes_fit
    & (λ n v. record { tests = Ok tt; value = signed_bits (signed v); contract = λ o. refl; given = λ fit. record { same = bits_signed v fit; passed = refl } })
    & (λ n v. plain _ v)
    & raw_bytes_fit
    & (λ n v. record { tests = _; value = _; contract = λ o. refl; given = indexes_given v })
    & raw_bytes_fit
    & (λ n v. plain _ v)
    & raw_bytes_fit
    & raw_bytes_fit
    & raw_bytes_fit
    & tt

gives : (t : ℕ) → Each (row t) (writer t)
gives t = of_type Each t raw_bytes_fit each_row

pub rewrites : Rewrites from_value
rewrites t s bs v last e o k = again (layout t) s bs v last e o k ((writer t).writes (length s) v) (gives t (length s) v)

-- ---- the answer for a payload by what it reads as

-- packet and text are told by the payload's length and by what it reads as
record ByLength (w : Row) : Type 0 where
  packet : (n : ℕ) → Value (w.layout n) → Packet
  text : (n : ℕ) → Value (w.layout n) → List ℕ
  is : (s : List ℕ) (v : Value (w.layout (length s))) → w.packet s v ≡ packet (length s) v
  worded : (s : List ℕ) (v : Value (w.layout (length s))) → w.text s v ≡ text (length s) v

abbrev told : {w : Row} → (p : (n : ℕ) → Value (w.layout n) → Packet) (x : (n : ℕ) → Value (w.layout n) → List ℕ)
    → ((s : List ℕ) (v : Value (w.layout (length s))) → w.packet s v ≡ p (length s) v) → ((s : List ℕ) (v : Value (w.layout (length s))) → w.text s v ≡ x (length s) v) → ByLength w
told p x h k = record { packet = p; text = x; is = h; worded = k }

abbrev untexted : {w : Row} → (p : (n : ℕ) → Value (w.layout n) → Packet) → ((s : List ℕ) (v : Value (w.layout (length s))) → w.packet s v ≡ p (length s) v) → ((s : List ℕ) (v : Value (w.layout (length s))) → w.text s v ≡ []) → ByLength w
untexted p h k = told p (λ n v. []) h k

by_lengths : All ByLength rows
unfolding rows
by_lengths =
    told (λ n v. P.Version (version_packet v)) (λ n v. agent_of v) (λ s v. refl) (λ s v. refl)
    & untexted (λ n v. P.Verack) (λ s v. refl) (λ s v. refl)
    & untexted (λ n v. P.Ping v) (λ s v. refl) (λ s v. refl)
    & untexted (λ n v. P.Pong v) (λ s v. refl) (λ s v. refl)
    & untexted (λ n v. P.GetAddr) (λ s v. refl) (λ s v. refl)
    & untexted (λ n v. P.Addr (items_at 0 v)) (λ s v. refl) (λ s v. refl)
    & untexted (λ n v. P.Inv (items_at 0 v)) (λ s v. refl) (λ s v. refl)
    & untexted (λ n v. P.GetData (items_at 0 v)) (λ s v. refl) (λ s v. refl)
    & untexted (λ n v. P.NotFound (items_at 0 v)) (λ s v. refl) (λ s v. refl)
    & untexted (λ n v. P.GetBlocks (record { locator = items_at 0 v.0; stop = n - 32 })) (λ s v. refl) (λ s v. refl)
    & untexted (λ n v. P.GetHeaders (record { locator = items_at 0 v.0; stop = n - 32 })) (λ s v. refl) (λ s v. refl)
    & untexted (λ n v. P.Headers (items_at 0 v)) (λ s v. refl) (λ s v. refl)
    & untexted (λ n v. P.SendHeaders) (λ s v. refl) (λ s v. refl)
    & untexted (λ n v. P.Block (span_at 0 v)) (λ s v. refl) (λ s v. refl)
    & untexted (λ n v. P.Tx (span_at 0 v)) (λ s v. refl) (λ s v. refl)
    & told (λ n v. P.Reject (record { message = v.0; code = v.1.0; reason = span_at 3 v.1.1.0; hash = choose (carries_hash v.0) (Some (n - 32)) None })) (λ n v. reason_of v) (λ s v. refl) (λ s v. refl)
    & untexted (λ n v. P.Mempool) (λ s v. refl) (λ s v. refl)
    & untexted (λ n v. P.FilterLoad (span_at 0 v)) (λ s v. refl) (λ s v. refl)
    & untexted (λ n v. P.FilterAdd (span_at 0 v)) (λ s v. refl) (λ s v. refl)
    & untexted (λ n v. P.FilterClear) (λ s v. refl) (λ s v. refl)
    & untexted (λ n v. P.MerkleBlock (span_at 0 v)) (λ s v. refl) (λ s v. refl)
    & untexted (λ n v. P.FeeFilter (signed v)) (λ s v. refl) (λ s v. refl)
    & untexted (λ n v. P.SendCmpct v.0 v.1) (λ s v. refl) (λ s v. refl)
    & untexted (λ n v. P.CmpctBlock (span_at 0 v)) (λ s v. refl) (λ s v. refl)
    & untexted (λ n v. P.GetBlockTxn (record { block_hash = 0; indexes = items_at 32 v.1 })) (λ s v. refl) (λ s v. refl)
    & untexted (λ n v. P.BlockTxn (span_at 0 v)) (λ s v. refl) (λ s v. refl)
    & untexted (λ n v. P.GetProof (record { root = 0; key = 32 })) (λ s v. refl) (λ s v. refl)
    & untexted (λ n v. P.Proof (span_at 0 v)) (λ s v. refl) (λ s v. refl)
    & untexted (λ n v. P.Claim (span_at 0 v)) (λ s v. refl) (λ s v. refl)
    & untexted (λ n v. P.Airdrop (span_at 0 v)) (λ s v. refl) (λ s v. refl)
    & tt

by_length : (t : ℕ) → ByLength (row t)
unfolding row
by_length t = entry ByLength rows (raw_bytes (P.Unknown t)) t by_lengths (untexted (λ n v. P.Unknown t (span_at 0 v)) (λ s v. refl) (λ s v. refl))

module _ (w : Row) (b : ByLength w) where
  abbrev packet_by : (n : ℕ) × Outcome (Value (w.layout n)) → Result Packet Refusal
  packet_by r = answered (b.packet r.0) r.1

  abbrev answer_for : List ℕ → (n : ℕ) × Outcome (Value (w.layout n)) → Answer
  answer_for o r = answer_by (b.packet r.0) (b.text r.0) r.1 o

  packet_by_lem : (x : List ℕ) (u : Outcome (Value (w.layout (length x)))) → answered (w.packet x) u ≡ packet_by (length x, u)
  packet_by_lem x (got v last) = ap Ok (b.is x v)
  packet_by_lem x (stop r) = refl

  answer_by_lem : (x o : List ℕ) (u : Outcome (Value (w.layout (length x)))) → answer_by (w.packet x) (w.text x) u o ≡ answer_for o (length x, u)
  answer_by_lem x o (got v last) = ap₂ (λ (p : Packet) (y : List ℕ). texted p y o) (b.is x v) (b.worded x v)
  answer_by_lem x o (stop r) = refl

  module _ (s x : List ℕ) (v : Value (w.layout (length s))) (last : ℕ) (e : read_by w.layout s ≡ got v last) (q : reading w.layout x ≡ (length s, got v (length s))) where
    one_packet : answered (w.packet x) (read_by w.layout x) ≡ answered (w.packet s) (read_by w.layout s)
    one_packet =
        packet_by_lem x (read_by w.layout x) ∙ (ap packet_by q ∙ (sym (packet_by_lem s (got v last)) ∙ ap (answered (w.packet s)) (sym e)))

    one_answer : (o : List ℕ) → answer_by (w.packet x) (w.text x) (read_by w.layout x) o ≡ answer_by (w.packet s) (w.text s) (read_by w.layout s) o
    one_answer o =
        answer_by_lem x o (read_by w.layout x)
        ∙ (ap (answer_for o) q ∙ (sym (answer_by_lem s o (got v last)) ∙ ap (λ (u : Outcome (Value (w.layout (length s)))). answer_by (w.packet s) (w.text s) u o) (sym e)))

pub same_answer : SameAnswer
unfolding packet_of read_packet
same_answer =
    record {
      packet = λ t s bs v last e. one_packet (row t) (by_length t) s (zeroed (layout t) s) v last e (same_reading (layout t) s bs v last e);
      text = λ t s bs v last e o. one_answer (row t) (by_length t) s (zeroed (layout t) s) v last e (same_reading (layout t) s bs v last e) o;
    }

one_call : OneCall
unfolding rewriting
one_call t s bs v last e o k = rw e (rewrites t s bs v last e o k)

-- ---- under terms

module _ (u : Terms) (t : ℕ) (s : List ℕ) (bs : Bytes s) (v : Value (layout t (length s))) (last : ℕ) (e : read_under u t s ≡ got v last) where
  plainly : read_by (layout t) s ≡ got v last
  plainly = let g = under_got u t s e in by_reads (layout t) s g.small g.whole

  -- what is written is as long, so that it is admitted too
  admits_again : admitted u t (length (zeroed (layout t) s)) ≡ Ok tt
  admits_again = ap (admitted u t) (long (layout t) s bs v last plainly) ∙ (under_got u t s e).admits

  reads_again : read_under u t (zeroed (layout t) s) ≡ read_by (layout t) (zeroed (layout t) s)
  reads_again = readings.passed u t (zeroed (layout t) s) admits_again

  again_under : (o : List ℕ) → length s ≤ length o → AgainUnder u t s v o
  unfolding rewriting_under read_packet_under read_packet
  again_under o k =
      let z = zeroed (layout t) s in
      record {
        again = rw e (rewrites t s bs v last plainly o k);
        same = ap (λ (q : Outcome (Value (layout t (length z)))). (length z, q)) reads_again ∙ same_reading (layout t) s bs v last plainly;
        answer = λ x. ap (λ (q : Outcome (Value (layout t (length z)))). answer_by ((row t).packet z) ((row t).text z) q x) reads_again
            ∙ (same_answer.text t s bs v last plainly x
            ∙ ap (λ (q : Outcome (Value (layout t (length s)))). answer_by ((row t).packet s) ((row t).text s) q x) (plainly ∙ sym e));
      }

pub demand_3_whole : Demand3Whole
demand_3_whole =
    record {
      pushes = demand_3;
      payloads = rewrites;
      one_call = one_call;
      not_kept = not_kept;
      answers = same_answer;
      under_terms = again_under;
    }
