-- An exported line determines its frame: the digits read back, so lines that begin the same text are the same line of the same type and payload. Assumes nothing.
use Prim.Native.Nat.{ℕ, ◌+◌, ◌-◌, ◌*◌, ◌/◌, ◌%◌, ◌^◌, ◌≤◌, ◌<◌, min}
use mathlib.Core.Path.{◌≡◌, refl, sym, ap, ap₂, ◌∙◌}
use mathlib.Core.List.{List, [], ◌∷◌, ◌++◌, append_assoc, reverse, reverse-reverse}
use native.Mathlib.Omega.{arith}
use lib.Dec.{ltb}
use lib.ListN.{length}
use borrow.Author.Tests.{ltb-true, ltb-false, le-ltb, lt-ltb}
use Rattle.hns_encoding.specs.Bytes.{le, le_bytes, Bytes, none, byte, choose}
use Rattle.hns_encoding.proofs.Numbers.{le_le_bytes}
use Rattle.hns_encoding.proofs.Outcomes.{choose_holds}
use Rattle.survey_digits.specs.Digits.{digit, hex}
use Rattle.survey_export.specs.Text.{space, newline, hex_payload, line}
use Rattle.survey_agreement.specs.Agreement.{LineDetermines}

-- ---- digits read back

undigit : ℕ → ℕ
undigit c = choose (ltb c 58) (c - 48) (c - 87)

undigit_low : (c : ℕ) → c < 58 → undigit c ≡ c - 48
unfolding undigit
undigit_low c h = simp (lt-ltb _ _ h)

undigit_high : (c : ℕ) → 58 ≤ c → undigit c ≡ c - 87
unfolding undigit
undigit_high c h = simp (le-ltb _ _ h)

undigit_digit : (d : ℕ) → d < 16 → undigit (digit d) ≡ d
unfolding digit
undigit_digit d h =
    choose_holds (λ (c : ℕ). undigit c ≡ d) (ltb d 10)
    (λ e. let k = ltb-true d 10 e in undigit_low (48 + d) (omega arith) ∙ omega arith)
    (λ e. let k = ltb-false d 10 e in undigit_high (87 + d) (omega arith) ∙ omega arith)

unhex : List ℕ → List ℕ
unhex [] = []
unhex (a ∷ []) = []
unhex (a ∷ b ∷ cs) = (undigit a * 16 + undigit b) ∷ unhex cs

unhex_hex : {s : List ℕ} → Bytes s → unhex (hex s) ≡ s
unfolding unhex hex
unhex_hex none = refl
unhex_hex (byte {b} {bs} h r) =
    let high = undigit_digit (b / 16) (omega arith) in
    let low = undigit_digit (b % 16) (omega arith) in
    let whole : b / 16 * 16 + b % 16 ≡ b = omega arith in
    rw (high, low, whole, unhex_hex r)

hex_length : (s : List ℕ) → length (hex s) ≡ 2 * length s
unfolding hex
hex_length [] = refl
hex_length (b ∷ s) = omega (arith, hex_length s)

-- bytes are determined by their digits
hex_same : {s t : List ℕ} → Bytes s → Bytes t → hex s ≡ hex t → s ≡ t
hex_same a b e = sym (unhex_hex a) ∙ (ap unhex e ∙ unhex_hex b)

pub payload_length : (s : List ℕ) → length (hex_payload s) ≡ min 1 (length s) + 2 * length s
unfolding hex_payload
payload_length [] = refl
payload_length (b ∷ s) = omega (arith, hex_length (b ∷ s))

payload_same : {s t : List ℕ} → Bytes s → Bytes t → length s ≡ length t → hex_payload s ≡ hex_payload t → s ≡ t
unfolding hex_payload
payload_same none none l e = refl
payload_same none (byte h b) l e = absurd (omega arith)
payload_same (byte h a) none l e = absurd (omega arith)
payload_same (byte h a) (byte k b) l e = hex_same (byte h a) (byte k b) (cc e)

-- ---- fronts of equal length

same_front : (a a' : List ℕ) {b b' : List ℕ} → length a ≡ length a' → a ++ b ≡ a' ++ b' → (a ≡ a') × (b ≡ b')
same_front [] [] l e = (refl, e)
same_front [] (y ∷ a') l e = absurd (omega arith)
same_front (x ∷ a) [] l e = absurd (omega arith)
same_front (x ∷ a) (y ∷ a') {b} {b'} l e =
    let first : x ≡ y = cc e in
    let rest = same_front a a' {b = b} {b' = b'} (omega arith) (cc e) in
    (rw (first, rest.0), rest.1)

-- ---- lines

-- the bytes of a length, highest first
four : ℕ → List ℕ
four n = reverse (le_bytes 4 n)

four_bytes : (n : ℕ) → Bytes (four n)
unfolding four le_bytes
four_bytes n = byte (last (n / 256 / 256 / 256)) (byte (last (n / 256 / 256)) (byte (last (n / 256)) (byte (last n) none)))
  where
    last : (m : ℕ) → m % 256 < 256
    last m = omega arith

four_same : (n m : ℕ) → n < 2 ^ 32 → m < 2 ^ 32 → four n ≡ four m → n ≡ m
unfolding four
four_same n m h k e =
    let bytes : le_bytes 4 n ≡ le_bytes 4 m = sym (reverse-reverse (le_bytes 4 n)) ∙ (ap reverse e ∙ reverse-reverse (le_bytes 4 m)) in
    sym (le_le_bytes 4 n h) ∙ (ap le bytes ∙ le_le_bytes 4 m k)

four_long : (n : ℕ) → length (four n) ≡ 4
unfolding four le_bytes
four_long n = refl

line_parts : (k : ℕ) (p x : List ℕ) → line k p ++ x ≡ hex (k ∷ []) ++ (space ∷ (hex (four (length p)) ++ (hex_payload p ++ (newline ∷ x))))
unfolding line four
line_parts k p x = simp append_assoc

-- Lines that begin equal texts are of one frame, and what follows them is equal.
pub same_line : LineDetermines
same_line f g x y v w e =
    let p = f.payload in
    let q = g.payload in
    let parts = sym (line_parts f.packet_type p x) ∙ (e ∙ line_parts g.packet_type q y) in
    let one = same_front (hex (f.packet_type ∷ [])) (hex (g.packet_type ∷ [])) (hex_length (f.packet_type ∷ []) ∙ sym (hex_length (g.packet_type ∷ []))) parts in
    let types : f.packet_type ∷ [] ≡ g.packet_type ∷ [] = hex_same (byte v.type_byte none) (byte w.type_byte none) one.0 in
    let packet_type : f.packet_type ≡ g.packet_type = cc types in
    let after-space : hex (four (length p)) ++ (hex_payload p ++ (newline ∷ x)) ≡ hex (four (length q)) ++ (hex_payload q ++ (newline ∷ y)) = cc one.1 in
    let two = same_front (hex (four (length p))) (hex (four (length q))) (lengths (length p) (length q)) after-space in
    let long : length p ≡ length q = four_same (length p) (length q) (omega (arith, v.within)) (omega (arith, w.within)) (hex_same (four_bytes (length p)) (four_bytes (length q)) two.0) in
    let three = same_front (hex_payload p) (hex_payload q) (omega (arith, payload_length p, payload_length q)) two.1 in
    let payload : p ≡ q = payload_same v.payload_bytes w.payload_bytes long three.0 in
    (ap₂ (λ (k : ℕ) (b : List ℕ). record { packet_type = k; payload = b }) packet_type payload, cc three.1)
  where
    lengths : (n m : ℕ) → length (hex (four n)) ≡ length (hex (four m))
    lengths n m = hex_length (four n) ∙ (ap (λ (k : ℕ). 2 * k) (four_long n ∙ sym (four_long m)) ∙ sym (hex_length (four m)))
