-- Counts of bits, and how answers go with masks. Assumes nothing.
use Prim.Native.Nat.{ℕ, zero, suc, ◌+◌, ◌-◌, ◌*◌, ◌/◌, ◌%◌, ◌^◌, ◌≤◌, ◌<◌}
use mathlib.Core.Path.{◌≡◌, refl, sym, ap, ◌∙◌}
use mathlib.Core.List.{List, [], ◌∷◌}
use mathlib.Core.Bool.{Bool, true, false}
use mathlib.Core.Logic.{◌⊎◌, inl, inr, ⊎_elim}
use native.Mathlib.Omega.{arith}
use native.Mathlib.Nat.{mod-lt}
use native.Mathlib.Decide.{ℕ_discrete}
use lib.ListN.{length, get_or, set, take, length-set}
use lib.Bits.{bit_or, or_shr, or_mod}
use lib.Count.{ones, ones_cat, ones-ones}
use Rattle.std.specs.Prelude.{Ok, Err}
use lib.Pow.{mod-pow-add, pow_pos, field, mod-mod-pow}
use lib.Dec.{ltb, leb, eqb}
use borrow.Author.Tests.{lt-ltb, le-ltb, eqb-true, eq-eqb}
use Rattle.hns_encoding.specs.Bytes.{choose}
use Rattle.hns_encoding.proofs.Numbers.{lt_or_ge}
use Rattle.hns_refusals.specs.Refusals.{Answer, no_role, not_granted}
use Rattle.hns_p2p_rights.specs.Terms.{own_mask, full_mask, terms_of}
use Rattle.hns_p2p_rights.specs.Rights.{bit, bit_of, granted, count_below, may_send, types_granted}
use Rattle.hns_p2p_rights.specs.Claims.{OnesAreTypes, AlikeIsSame, OtherMask, StillGranted, GrantingLent, FullMask}

-- ---- the count of ones

digit_ones : (d : ℕ) → d < 2 → ones d ≡ choose (eqb d 1) 1 0
unfolding ones
digit_ones zero h = refl
digit_ones (suc zero) h = refl
digit_ones (suc (suc d)) h = absurd (omega arith)

none : ones 0 ≡ 0
unfolding ones
none = refl

low_none : (n : ℕ) → n % 1 ≡ 0
low_none n = omega arith

-- the ones in the lowest n bits
low_ones : (n mask : ℕ) → ones (mask % 2 ^ n) ≡ count_below n (bit mask)
unfolding count_below bit
low_ones zero mask = rw (low_none mask) none
low_ones (suc n) mask =
    let e : mask % 2 ^ suc n ≡ (mask / 2 ^ n % 2) * 2 ^ n + mask % 2 ^ n = ap (λ (j : ℕ). mask % 2 ^ j) (omega arith) ∙ mod-pow-add mask 1 n in
    rw e (ones_cat n (mask / 2 ^ n % 2) (mask % 2 ^ n) (mod-lt mask (pow_pos n)) ∙ rw (digit_ones (mask / 2 ^ n % 2) (omega arith), low_ones n mask))

-- counts of tests that agree below n
same_count : (n : ℕ) (p q : ℕ → Bool) → ((k : ℕ) → k < n → p k ≡ q k) → count_below n p ≡ count_below n q
unfolding count_below
same_count zero p q h = refl
same_count (suc n) p q h = rw (h n (omega arith), same_count n p q (λ k l. h k (omega arith)))

-- a type's bit is its own number, as far as 30
own_bit : (t : ℕ) → t < 31 → bit_of t ≡ t
unfolding bit_of
own_bit t h = ⊎_elim {A = t < 30} {B = 30 ≤ t} (λ l. rw (lt-ltb t 30 l)) (λ l. rw (le-ltb t 30 l) (omega arith)) (lt_or_ge t 30)

some_bit : (t : ℕ) → bit_of t < 31
unfolding bit_of
some_bit t = ⊎_elim {A = t < 30} {B = 30 ≤ t} (λ l. rw (lt-ltb t 30 l) (omega arith)) (λ l. rw (le-ltb t 30 l) (omega arith)) (lt_or_ge t 30)

pub ones_are_types : OnesAreTypes
unfolding granted
ones_are_types mask = low_ones 31 mask ∙ same_count 31 _ _ (λ k h. ap (bit mask) (sym (own_bit k h)))

-- ---- masks that agree

low_digit : (mask i k : ℕ) → mask % 2 ^ ((i + 1) + k) / 2 ^ k % 2 ≡ mask / 2 ^ k % 2
low_digit mask i k = ap (λ (x : ℕ). x % 2) (field mask (i + 1) k) ∙ mod-mod-pow (mask / 2 ^ k) i 1

granted_low : (mask t : ℕ) → granted (mask % 2 ^ 31) t ≡ granted mask t
unfolding granted bit
granted_low mask t =
    let k = bit_of t in
    let h = some_bit t in
    let e : 31 ≡ (30 - bit_of t + 1) + bit_of t = omega arith in
    ap (λ (n : ℕ). eqb (mask % 2 ^ n / 2 ^ k % 2) 1) e ∙ ap (λ (d : ℕ). eqb d 1) (low_digit mask (30 - k) k)

same_low : (a b : ℕ) → a % 2 ^ 31 ≡ b % 2 ^ 31 → (t : ℕ) → granted a t ≡ granted b t
same_low a b e t = sym (granted_low a t) ∙ (ap (λ (m : ℕ). granted m t) e ∙ granted_low b t)

pub alike : AlikeIsSame
unfolding may_send types_granted
alike u u' a =
    let same = same_low (own_mask u) (own_mask u') a.bits in
    record {
      sending = λ t. rw (same t, a.role);
      counting = rw (same_count 31 (granted (own_mask u)) (granted (own_mask u')) (λ k h. same k), a.role);
    }

-- what stands at a place after a store at any place
after_set : (l : List ℕ) (i j a : ℕ) → (get_or (set l i a) j 0 ≡ get_or l j 0) ⊎ ((i ≡ j) × (get_or (set l i a) j 0 ≡ a))
after_set [] i j a = inl refl
after_set (x ∷ l) zero zero a = inr (refl, refl)
after_set (x ∷ l) zero (suc j) a = inl refl
after_set (x ∷ l) (suc i) zero a = inl refl
after_set (x ∷ l) (suc i) (suc j) a = ⊎_elim (λ e. inl e) (λ e. inr (ap suc e.0, e.1)) (after_set l i j a)

-- also of the first n elements
other_place : (l : List ℕ) (n i j a : ℕ) → (j ≡ i → ⊥) → get_or (take n (set l i a)) j 0 ≡ get_or (take n l) j 0
other_place [] n i j a d = refl
other_place (x ∷ l) zero i j a d = refl
other_place (x ∷ l) (suc n) zero zero a d = absurd (d refl)
other_place (x ∷ l) (suc n) zero (suc j) a d = refl
other_place (x ∷ l) (suc n) (suc i) zero a d = refl
other_place (x ∷ l) (suc n) (suc i) (suc j) a d = other_place l n i j a (λ e. d (ap suc e))

other_choice : (b : Bool) (l : List ℕ) (n i j a : ℕ) → (j ≡ i → ⊥) → get_or (choose b (take n (set l i a)) []) j 0 ≡ get_or (choose b (take n l) []) j 0
other_choice true l n i j a d = other_place l n i j a d
other_choice false l n i j a d = refl

pub other_mask : OtherMask
unfolding terms_of
other_mask role k x masks d =
    let e : leb 8 (length (set masks k x)) ≡ leb 8 (length masks) = ap (leb 8) (length-set masks k x) in
    record { role = refl; bits = ap (λ (m : ℕ). m % 2 ^ 31) (rw e (sym (other_choice (leb 8 (length masks)) masks 8 k role x d))) }

-- ---- granting

or_one : (d : ℕ) → d < 2 → bit_or 1 d ≡ 1
or_one zero h = refl
or_one (suc zero) h = refl
or_one (suc (suc d)) h = absurd (omega arith)

bit_or_lem : (a b k : ℕ) → bit a k ≡ true → bit (bit_or a b) k ≡ true
unfolding bit
bit_or_lem a b k h =
    let e : a / 2 ^ k % 2 ≡ 1 = eqb-true _ _ h in
    eq-eqb (bit_or a b / 2 ^ k % 2) 1
    (ap (λ (x : ℕ). x % 2) (or_shr a b k) ∙ (or_mod (a / 2 ^ k) (b / 2 ^ k) 1 ∙ (ap (λ (x : ℕ). bit_or x (b / 2 ^ k % 2)) e ∙ or_one (b / 2 ^ k % 2) (omega arith))))

allowed : (a b : Bool) → ◌≡◌ {A = Answer (Unit {0})} (choose a (choose b (Ok tt) (Err not_granted)) (Err no_role)) (Ok tt) → (a ≡ true) × (b ≡ true)
allowed true true e = (refl, refl)
allowed true false e = cc
allowed false b e = cc

pub still_granted : StillGranted
unfolding may_send granted
still_granted u t role bits h =
    let m = bit_or (get_or u.masks role 0) bits in
    let a = allowed (ltb u.role 8) (granted (own_mask u) t) h in
    let still : granted (get_or (set u.masks role m) u.role 0) t ≡ true =
    ⊎_elim (λ e. ap (λ (x : ℕ). granted x t) e ∙ a.1)
    (λ e. ap (λ (x : ℕ). granted x t) (e.1 ∙ ap (λ (r : ℕ). bit_or (get_or u.masks r 0) bits) e.0) ∙ bit_or_lem (own_mask u) bits (bit_of t) a.1)
    (after_set u.masks role u.role m) in
    rw (a.0, still)

granted_front : (n : ℕ) (l : List ℕ) (k bits : ℕ) → take n (set l k (bit_or (get_or l k 0) bits)) ≡ set (take n l) k (bit_or (get_or (take n l) k 0) bits)
granted_front zero l k bits = refl
granted_front (suc n) [] k bits = refl
granted_front (suc n) (x ∷ l) zero bits = refl
granted_front (suc n) (x ∷ l) (suc k) bits = ap (λ (r : List ℕ). x ∷ r) (granted_front n l k bits)

granted_choice : (b : Bool) (l : List ℕ) (k bits : ℕ)
    → choose b (take 8 (set l k (bit_or (get_or l k 0) bits))) [] ≡ set (choose b (take 8 l) []) k (bit_or (get_or (choose b (take 8 l) []) k 0) bits)
granted_choice true l k bits = granted_front 8 l k bits
granted_choice false l k bits = refl

pub granting_lent : GrantingLent
unfolding terms_of
granting_lent role k bits masks =
    let e : leb 8 (length (set masks k (bit_or (get_or masks k 0) bits))) ≡ leb 8 (length masks) = ap (leb 8) (length-set masks k _) in
    rw e (ap (λ (m : List ℕ). record { role = role; masks = m }) (granted_choice (leb 8 (length masks)) masks k bits))

-- ---- the full mask

one : (b : Bool) → choose b 1 0 ≤ 1
one true = omega arith
one false = omega arith

at_most : (n : ℕ) (p : ℕ → Bool) → count_below n p ≤ n
unfolding count_below
at_most zero p = omega arith
at_most (suc n) p = omega (arith, one (p n), at_most n p)

-- if all are counted, each passes
last : (b : Bool) (m n : ℕ) → m ≤ n → choose b 1 0 + m ≡ suc n → (b ≡ true) × (m ≡ n)
last true m n h q = (refl, omega arith)
last false m n h q = absurd (omega arith)

each : (n : ℕ) (p : ℕ → Bool) → count_below n p ≡ n → (k : ℕ) → k < n → p k ≡ true
unfolding count_below
each zero p e k h = absurd (omega arith)
each (suc n) p e k h =
    let a = last (p n) (count_below n p) n (at_most n p) e in
    elim (ℕ_discrete k n) [ yes q ↦ ap p q ∙ a.0 | no d ↦ each n p a.1 k (omega arith) ]

full_types : count_below 31 (granted full_mask) ≡ 31
full_types = sym (ones_are_types full_mask) ∙ ones-ones 31

full_granted : (t : ℕ) → granted full_mask t ≡ true
unfolding granted
full_granted t = each 31 (bit full_mask) (sym (low_ones 31 full_mask) ∙ ones-ones 31) (bit_of t) (some_bit t)

-- a mask whose bits 0 to 30 are ones grants what the full mask grants
all_granted : (mask : ℕ) → mask % 2 ^ 31 ≡ full_mask → (t : ℕ) → granted mask t ≡ granted full_mask t
all_granted mask e t = sym (granted_low mask t) ∙ ap (λ (m : ℕ). granted m t) e

pub full : FullMask
unfolding may_send types_granted terms_of
full =
    record {
      sending = λ u f t. rw (lt-ltb u.role 8 f.a_role, all_granted (own_mask u) f.all t ∙ full_granted t);
      counting = λ u f. rw (lt-ltb u.role 8 f.a_role, same_count 31 (granted (own_mask u)) (granted full_mask) (λ k h. all_granted (own_mask u) f.all k) ∙ full_types);
      no_numbers = record { a_role = omega arith; all = refl };
    }
