-- How outcomes come apart: what a reading that reads says of the readings that it is made of, and when a reading reads.
use Prim.Native.Nat.{ℕ, ◌+◌, ◌-◌, ◌≤◌, ◌<◌}
use mathlib.Core.Path.{◌≡◌, refl, ◌∙◌}
use mathlib.Core.List.{List, [], ◌∷◌}
use mathlib.Core.Bool.{Bool, true, false}
use native.Mathlib.Omega.{arith}
use lib.ListN.{length, get_or}
use lib.Dec.{leb, eqb}
use borrow.Author.Tests.{le-leb, lt-leb, leb-true, leb-false, eq-eqb, eqb-true}
use Rattle.hns_refusals.specs.declared.Refusal.{Refusal}
use Rattle.hns_refusals.specs.Refusals.{unexpected_end}
use Rattle.hns_encoding.specs.Bytes.{choose, Outcome, got, stop, after, part, left, bytes_at, le_at, end_at, to_end}
use Rattle.hns_encoding.specs.Compact.{compact_at, count_at}
use Rattle.hns_encoding.proofs.Numbers.{le_one, byte_part}

-- a reading that goes on after another has read that one
pub after_got : {A B : Type 0} (o : Outcome A) (k : A → ℕ → Outcome B) {b : B} {n : ℕ} → after o k ≡ got b n → (a : A) × (m : ℕ) × (o ≡ got a m) × (k a m ≡ got b n)
after_got (got a m) k e = (a, m, refl, e)
after_got (stop r) k e = let z : ◌≡◌ {A = ℕ} 0 1 = cc in absurd (omega arith)

-- a test that can refuse has not
pub choose_got : {A : Type 0} (b : Bool) (o : Outcome A) (r : Refusal) {v : A} {n : ℕ} → choose b o (stop r) ≡ got v n → (b ≡ true) × (o ≡ got v n)
choose_got true o r e = (refl, e)
choose_got false o r e = let z : ◌≡◌ {A = ℕ} 0 1 = cc in absurd (omega arith)

-- what holds of both choices holds of the chosen one
pub choose_holds {κ} : {X : Type 0} (P : X → Type κ) (b : Bool) {x y : X} → (b ≡ true → P x) → (b ≡ false → P y) → P (choose b x y)
choose_holds P true f g = f refl
choose_holds P false f g = g refl

-- where the test is whether a number is at most another
pub choose_leb {κ} : {X : Type 0} (P : X → Type κ) (a b : ℕ) {x y : X} → (a ≤ b → P x) → (b < a → P y) → P (choose (leb a b) x y)
choose_leb P a b f g = choose_holds P (leb a b) (λ e. f (leb-true a b e)) (λ e. g (leb-false a b e))

-- ---- bytes

pub bytes_fits : (n : ℕ) (s : List ℕ) (p : ℕ) → n ≤ left s p → bytes_at n s p ≡ got (part s p n) (p + n)
unfolding bytes_at
bytes_fits n s p h = simp (le-leb _ _ h)

pub bytes_short : (n : ℕ) (s : List ℕ) (p : ℕ) → left s p < n → bytes_at n s p ≡ stop (unexpected_end p (n - left s p))
unfolding bytes_at
bytes_short n s p h = simp (lt-leb _ _ h)

pub bytes_got : (n : ℕ) (s : List ℕ) (p : ℕ) {v : List ℕ} {next : ℕ} → bytes_at n s p ≡ got v next → (v ≡ part s p n) × (next ≡ p + n) × (n ≤ left s p)
unfolding bytes_at
bytes_got n s p e =
    let h = choose_got (leb n (left s p)) _ _ e in
    (cc h.1, cc h.1, leb-true _ _ h.0)

-- a one-byte number is the byte
pub byte_got : (s : List ℕ) (p : ℕ) {v next : ℕ} → le_at 1 s p ≡ got v next → (v ≡ get_or s p 0) × (next ≡ p + 1) × (p < length s)
unfolding le_at
byte_got s p e =
    let g = after_got (bytes_at 1 s p) _ e in
    let h = bytes_got 1 s p g.2 in
    let there : p < length s = omega (arith, h.2) in
    let is : g.0 ≡ get_or s p 0 ∷ [] = h.0 ∙ byte_part s p there in
    (cc (g.3, is, le_one (get_or s p 0)), cc (g.3, h.1), there)

-- ---- the end

pub end_got : (s : List ℕ) (p : ℕ) {u : Unit {0}} {last : ℕ} → end_at s p ≡ got u last → (last ≡ p) × (length s ≤ p)
unfolding end_at
end_got s p e =
    let h = choose_got (eqb (left s p) 0) _ _ e in
    (cc h.1, omega (arith, eqb-true (left s p) 0 h.0))

-- an item that all bytes are read as is read from the first on, and no byte is left after it
pub to_end_got : {A : Type 0} (item : List ℕ → ℕ → Outcome A) (s : List ℕ) {v : A} {last : ℕ} → to_end item s ≡ got v last → (item s 0 ≡ got v last) × (length s ≤ last)
unfolding to_end
to_end_got item s {last = last} e =
    let g = after_got (item s 0) _ e in
    let k = after_got (end_at s g.1) _ g.3 in
    let h = end_got s g.1 k.2 in
    let same : last ≡ g.1 = cc (k.3, h.0) in
    (cc (g.2, k.3, h.0), omega (arith, h.1))

pub to_end_fits : {A : Type 0} (item : List ℕ → ℕ → Outcome A) (s : List ℕ) {v : A} {last : ℕ} → item s 0 ≡ got v last → length s ≤ last → to_end item s ≡ got v last
unfolding to_end end_at
to_end_fits item s {last = last} e h =
    let none : left s last ≡ 0 = omega arith in
    rw (e, eq-eqb _ _ none)

-- ---- counts

pub count_got : (limit field : ℕ) (s : List ℕ) (p : ℕ) {n next : ℕ} → count_at limit field s p ≡ got n next → (compact_at s p ≡ got n next) × (n ≤ limit)
unfolding count_at
count_got limit field s p {n} e =
    let g = after_got (compact_at s p) _ e in
    let h = choose_got (leb g.0 limit) _ _ g.3 in
    let same : n ≡ g.0 = cc h.1 in
    (cc (g.2, h.1), omega (arith, leb-true g.0 limit h.0))
