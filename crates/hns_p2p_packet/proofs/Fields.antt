-- The rows of the table: a packet's fields by its type. Assumes nothing.
use Prim.Native.Nat.{ℕ, zero, suc, ◌≤◌, ◌<◌}
use mathlib.Core.Path.{◌≡◌, refl, sym, ap, ◌∙◌}
use mathlib.Core.List.{List, [], ◌∷◌}
use mathlib.Core.Logic.{⊎_elim}
use native.Mathlib.Omega.{arith}
use lib.ListN.{length, get_or, get_or-eq_default}
use lib.Seq.{take_all}
use Rattle.std.specs.Prelude.{Result, Ok, Err}
use Rattle.hns_refusals.specs.declared.Refusal.{Refusal}
use Rattle.hns_encoding.specs.Bytes.{Outcome, got, stop, after, bytes_at, end_at, to_end}
use Rattle.hns_encoding.specs.Format.{raw, read, All}
use Rattle.hns_encoding.proofs.Numbers.{lt_or_ge}
use Rattle.hns_encoding.proofs.Outcomes.{bytes_fits, to_end_fits}
use Rattle.hns_p2p_types.specs.declared.PacketType.{PacketType}
use Rattle.hns_p2p_types.specs.declared.PacketType.TheVariants as T
use Rattle.hns_p2p_types.specs.Types.{types, type_of, type_number}
use Rattle.hns_p2p_types.proofs.Types.{types_back}
use Rattle.hns_p2p_types.specs.declared.Span.{Span}
use Rattle.hns_p2p_types.specs.declared.Packet.{Packet}
use Rattle.hns_p2p_types.specs.declared.Packet.TheVariants as P
use Rattle.hns_p2p_types.specs.Packets.{◌&◌, Row, empty, raw_bytes, row, rows, answered}
use Rattle.hns_p2p_rights.specs.Terms.{Terms}
use Rattle.hns_p2p_admission.specs.Admission.{admitted}
use Rattle.hns_p2p_admission.specs.Reading.{read_under, packet_under}
use Rattle.hns_p2p_blocks.specs.Blocks.{gate}
use Rattle.hns_p2p_types.specs.Packets.{fields_by, fields_of}

-- ---- by the type

pub at_type : (n : ℕ) (s : List ℕ) {r : Result Packet Refusal} {x t : PacketType} {k : ℕ} → x ≡ type_of n → x ≡ t → type_number t ≡ k → r ≡ fields_of k s → r ≡ fields_of n s
at_type n s e g f q =
    let number : type_number (type_of n) ≡ n = types_back n in
    q ∙ ap (λ (k : ℕ). fields_of k s) (sym f ∙ ap type_number (sym g ∙ e) ∙ number)

pub empty_fields : (packet : Packet) (s : List ℕ) {r : Result Packet Refusal} → r ≡ gate (end_at s 0) packet → r ≡ fields_by (empty packet) s
unfolding to_end read
empty_fields packet s e = e ∙ go (end_at s 0)
  where
    go : (o : Outcome (Unit {0})) → gate o packet ≡ answered (λ (v : Unit {0}). packet) (after o (λ u last. got tt last))
    go (got u last) = refl
    go (stop r) = refl

-- all bytes read as they stand
all_bytes : (s : List ℕ) → to_end (read (raw (length s))) s ≡ got s (length s)
unfolding read
all_bytes s =
    let here : bytes_at (length s) s 0 ≡ got s (length s) = bytes_fits (length s) s 0 (omega arith) ∙ rw (take_all (length s) s (omega arith)) (ap (got s) (omega arith)) in
    to_end_fits (bytes_at (length s)) s here (omega arith)

pub raw_fields : (packet : Span → Packet) (s : List ℕ) → Ok (packet (record { start = 0; length = length s })) ≡ fields_by (raw_bytes packet) s
raw_fields packet s = rw (all_bytes s)

-- no type below 30 is unknown
named : (l : List PacketType) → All (λ t. (k : ℕ) → t ≡ T.Unknown k → ⊥) l → (n : ℕ) → n < length l → (d : PacketType) → (k : ℕ) → get_or l n d ≡ T.Unknown k → ⊥
named [] h n b d = absurd (omega arith)
named (t ∷ l) h zero b d = h.0
named (t ∷ l) h (suc n) b d = named l h.1 n (omega arith) d

past : (n : ℕ) {k : ℕ} → type_of n ≡ T.Unknown k → 30 ≤ n
unfolding type_of types
past n {k} e = ⊎_elim (λ b. absurd (named types ((λ k e. cc) & (λ k e. cc) & (λ k e. cc) & (λ k e. cc) & (λ k e. cc) & (λ k e. cc) & (λ k e. cc) & (λ k e. cc) & (λ k e. cc) & (λ k e. cc) & (λ k e. cc) & (λ k e. cc) & (λ k e. cc) & (λ k e. cc) & (λ k e. cc) & (λ k e. cc) & (λ k e. cc) & (λ k e. cc) & (λ k e. cc) & (λ k e. cc) & (λ k e. cc) & (λ k e. cc) & (λ k e. cc) & (λ k e. cc) & (λ k e. cc) & (λ k e. cc) & (λ k e. cc) & (λ k e. cc) & (λ k e. cc) & (λ k e. cc) & tt) n b (T.Unknown n) k e)) (λ h. h) (lt_or_ge n 30)

-- past the table
pub unknown_fields : (n : ℕ) (s : List ℕ) {x : PacketType} {k : ℕ} → x ≡ type_of n → x ≡ T.Unknown k → Ok (P.Unknown n (record { start = 0; length = length s })) ≡ fields_of n s
unfolding fields_of row rows
unknown_fields n s e g = raw_fields (P.Unknown n) s ∙ ap (λ (w : Row). fields_by w s) (sym (get_or-eq_default rows (raw_bytes (P.Unknown n)) (past n (sym e ∙ g))))

-- ---- the tests before them

module _ (u : Terms) (t : ℕ) (s : List ℕ) {a : Result (Unit {0}) Refusal} (e : a ≡ admitted u t (length s)) where
  pub packet_away : {r : Refusal} → a ≡ Err r → Err r ≡ packet_under u t s
  unfolding packet_under read_under
  packet_away q = rw (sym e ∙ q)

  pub packet_fields : {x : Unit {0}} → a ≡ Ok x → {p : Result Packet Refusal} → p ≡ fields_of t s → p ≡ packet_under u t s
  unfolding packet_under read_under fields_of
  packet_fields q f = f ∙ rw (sym e ∙ q)
