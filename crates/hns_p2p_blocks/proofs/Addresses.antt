-- An address by the numbers at its places. Assumes nothing.
use Prim.Native.Nat.{ℕ, ◌+◌, ◌≤◌, ◌<◌}
use mathlib.Core.Path.{◌≡◌, refl, sym, ap, ◌∙◌}
use mathlib.Core.List.{List}
use mathlib.Core.Bool.{Bool, true, false}
use native.Mathlib.Omega.{arith}
use native.Mathlib.Nat.{add-zero}
use lib.ListN.{length, take, drop, replicate, length-drop}
use lib.Dec.{eqb}
use borrow.Author.Tests.{le-leb, lt-leb}
use Rattle.hns_encoding.specs.Bytes.{le, part, choose, left, number_at}
use Rattle.hns_encoding.proofs.Reading.{number_there, part_inside, number_inside}
use Rattle.hns_encoding.specs.Format.{value_at}
use Rattle.hns_p2p_types.specs.Protocol.{address}
use Rattle.hns_p2p_types.specs.Packets.{address_at, no_address, address_in}

-- 8 bytes of an ip, from a place in it on
ip_part : (test : Bool) (u : List ℕ) (a : ℕ) → a + 8 ≤ 16 → le (part (replicate 16 0) a 8) ≡ 0 → choose test (le (part u a 8)) 0 ≡ le (part (choose test (take 16 u) (replicate 16 0)) a 8)
ip_part true u a h z = let here : 0 + a ≡ a = omega arith in ap le (ap (λ (n : ℕ). part u n 8) (sym here) ∙ sym (part_inside u 0 16 a 8 h))
ip_part false u a h z = sym z

zeros : (le (part (replicate 16 0) 0 8) ≡ 0) × (le (part (replicate 16 0) 8 8) ≡ 0)
unfolding le
zeros = (refl, refl)

pub address_short : (s : List ℕ) (q : ℕ) → length (drop q s) < 88 → no_address ≡ address_in s q
unfolding address_in
address_short s q h = let short : left s q < 88 = omega (arith, length-drop q s) in rw (lt-leb 88 (left s q) short)

pub address_is : (s : List ℕ) (q : ℕ) → 88 ≤ left s q → address_in s q ≡ address_at q (value_at address _ s q)
unfolding address_in
address_is s q h = rw (le-leb 88 (left s q) h)

-- the fields of an address by its 88 bytes
pub address_there : (s : List ℕ) (q : ℕ) → 88 ≤ length (drop q s) → {bs : List ℕ} {test : Bool} {time services low high port : ℕ} → bs ≡ take 88 (drop q s) → test ≡ eqb (number_at 1 bs 16) 0 → time ≡ number_at 8 bs 0 → services ≡ number_at 4 bs 8
    → low ≡ choose test (number_at 8 bs 17) 0 → high ≡ choose test (number_at 8 bs 25) 0 → port ≡ number_at 2 bs 53
    → record { time = time; services = services; ip_first = low; ip_last = high; port = port; key = q + 55 } ≡ address_in s q
unfolding address_in
address_there s q long {bs} {test} {time} {services} {low} {high} {port} eb et e1 e2 e3 e4 e5 =
    let h : 88 ≤ left s q = omega (arith, length-drop q s) in
    let u = part s (q + 17) 36 in
    let first : part u 0 8 ≡ part s (q + 17) 8 = part_inside s (q + 17) 36 0 8 (omega arith) ∙ ap (λ (n : ℕ). part s n 8) (add-zero (q + 17)) in
    let place : q + 17 + 8 ≡ q + 25 = omega arith in
    let second : part u 8 8 ≡ part s (q + 25) 8 = part_inside s (q + 17) 36 8 8 (omega arith) ∙ ap (λ (n : ℕ). part s n 8) place in
    let first' : choose test (le (part s (q + 17) 8)) 0 ≡ le (part (choose test (take 16 u) (replicate 16 0)) 0 8) = ap (λ (l : List ℕ). choose test (le l) 0) (sym first) ∙ ip_part test u 0 (omega arith) zeros.0 in
    let second' : choose test (le (part s (q + 25) 8)) 0 ≡ le (part (choose test (take 16 u) (replicate 16 0)) 8 8) = ap (λ (l : List ℕ). choose test (le l) 0) (sym second) ∙ ip_part test u 8 (omega arith) zeros.1 in
    let p0 : q + 0 ≡ q = add-zero q in
    let p16 : q + 8 + 4 + 4 ≡ q + 16 = omega arith in
    let p17 : q + 16 + 1 ≡ q + 17 = omega arith in
    let p53 : q + 16 + 37 ≡ q + 53 = omega arith in
    let t : test ≡ eqb (number_at 1 s (q + 16)) 0 = et ∙ ap (λ (l : List ℕ). eqb (number_at 1 l 16) 0) eb ∙ ap (λ (v : ℕ). eqb v 0) (number_inside s q 88 16 1 h (omega arith)) in
    let f1 : time ≡ number_at 8 s q = e1 ∙ ap (λ (l : List ℕ). number_at 8 l 0) eb ∙ number_inside s q 88 0 8 h (omega arith) ∙ ap (number_at 8 s) p0 in
    let f2 : services ≡ number_at 4 s (q + 8) = e2 ∙ ap (λ (l : List ℕ). number_at 4 l 8) eb ∙ number_inside s q 88 8 4 h (omega arith) in
    let f3 = e3 ∙ ap (λ (l : List ℕ). choose test (number_at 8 l 17) 0) eb ∙ ap (λ (v : ℕ). choose test v 0) (number_inside s q 88 17 8 h (omega arith)) in
    let f4 = e4 ∙ ap (λ (l : List ℕ). choose test (number_at 8 l 25) 0) eb ∙ ap (λ (v : ℕ). choose test v 0) (number_inside s q 88 25 8 h (omega arith)) in
    let f5 : port ≡ number_at 2 s (q + 53) = e5 ∙ ap (λ (l : List ℕ). number_at 2 l 53) eb ∙ number_inside s q 88 53 2 h (omega arith) in
    rw (le-leb 88 (left s q) h, f1, f2, f3, f4, f5, number_there 8 s (q + 17) (omega arith), number_there 8 s (q + 25) (omega arith), p16, p17, p53, ← t, first', second')
