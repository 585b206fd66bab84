-- The fields of an address and of a version from a packet's numbers and places are those that were read. Assumes nothing.
use Prim.Native.Nat.{ℕ, suc, ◌+◌, ◌-◌, ◌*◌, ◌≤◌, ◌<◌}
use mathlib.Core.Path.{◌≡◌, refl, sym, ap, ap₂, ◌∙◌}
use mathlib.Core.Bool.{Bool, true, false}
use mathlib.Core.List.{List, [], ◌++◌, map}
use native.Mathlib.Omega.{arith}
use lib.ListN.{length, take, replicate, length-map}
use lib.Dec.{eqb}
use lib.Seq.{take_all, length-take-le}
use borrow.Author.Tests.{le-leb}
use Rattle.hns_refusals.specs.Limits.{max_addresses}
use Rattle.hns_encoding.specs.Bytes.{le, le_bytes, Bytes, choose, part, left, number_at}
use Rattle.hns_encoding.specs.Format.{Value, ip_of, value_at, write, values_at}
use Rattle.hns_encoding.specs.Put.{Put}
use Rattle.hns_encoding.proofs.Blocks.{length_all, length_values}
use Rattle.hns_encoding.proofs.Puts.{put_end, from_start}
use Rattle.hns_encoding.proofs.Numbers.{le_bytes_le, bytes_drop, bytes_take, bytes_zeros, part_length, part_add}
use Rattle.hns_encoding.proofs.Reading.{raw_there}
use Rattle.hns_p2p_types.specs.declared.NetAddress.{NetAddress}
use Rattle.hns_p2p_types.specs.Protocol.{address}
use Rattle.hns_p2p_types.specs.Packets.{address_at, address_in}
use Rattle.hns_p2p_block_puts.specs.declared.AddressFields.{AddressFields}
use Rattle.hns_p2p_list_puts.specs.Fields.{flat_address, flat_address_of}
use Rattle.hns_p2p_list_puts.proofs.Items.{items_fit, all_flat}
use Rattle.hns_p2p_wire.proofs.Demand3.{front_is}
use Rattle.hns_p2p_wire.specs.Table.{flat_addresses, address_fields}
use Rattle.hns_p2p_fields.specs.Fields.{ip_in, address_fields_in}
use Rattle.hns_p2p_rewrite.specs.Helpers.{flat_fields}

-- ---- an ip of 16 bytes is its two numbers

ip_bytes : (b : Bool) (s : List ℕ) → Bytes s → Bytes (choose b (take 16 s) (replicate 16 0))
ip_bytes true s bs = bytes_take 16 bs
ip_bytes false s bs = bytes_zeros 16

ip_long : (b : Bool) (s : List ℕ) → 16 ≤ length s → length (choose b (take 16 s) (replicate 16 0)) ≡ 16
ip_long true s h = length-take-le 16 s h
ip_long false s h = refl

eight : (x : List ℕ) → Bytes x → (p : ℕ) → p + 8 ≤ length x → le_bytes 8 (le (part x p 8)) ≡ part x p 8
eight x bs p h = let long : length (part x p 8) ≡ 8 = part_length x p 8 (omega arith) in ap (λ (n : ℕ). le_bytes n (le (part x p 8))) (sym long) ∙ le_bytes_le (bytes_take 8 (bytes_drop p bs))

ip_again : (x : List ℕ) → Bytes x → length x ≡ 16 → ip_in (le (part x 0 8)) (le (part x 8 8)) ≡ x
ip_again x bs h = ap₂ (λ (a b : List ℕ). a ++ b) (eight x bs 0 (omega arith)) (eight x bs 8 (omega arith)) ∙ (sym (part_add x 0 8 8) ∙ take_all 16 x (omega arith))

-- ---- an address that stands at a place

module _ (s : List ℕ) (bs : Bytes s) (p : ℕ) (h : p + 88 ≤ length s) where
  abbrev there : Value address
  there = value_at address _ s p

  pub fields_there : address_fields_in s (address_at p there) ≡ address_fields there
  unfolding address_fields_in
  fields_there =
      let host = part s (p + 8 + 4 + 4 + 1) 36 in
      let zero-kind = eqb (number_at 1 s (p + 8 + 4 + 4)) 0 in
      let long : length (part s (p + 8 + 4 + 4 + 1) 36) ≡ 36 = part_length s (p + 8 + 4 + 4 + 1) 36 (omega arith) in
      let ip = ip_again (ip_of (number_at 1 s (p + 8 + 4 + 4)) host) (ip_bytes zero-kind host (bytes_take 36 (bytes_drop (p + 8 + 4 + 4 + 1) bs))) (ip_long zero-kind host (omega (arith, long))) in
      let place : p + 8 + 4 + 4 + 37 + 2 ≡ p + 55 = omega arith in
      rw (ip, raw_there 33 s (p + 55) (omega arith), place)

  pub address_there : address_in s p ≡ address_at p there
  unfolding address_in
  address_there = rw (le-leb 88 (left s p) (omega arith))

-- ---- the addresses of a payload as flat items

abbrev pub flat_from : ℕ → List ℕ → ℕ → List ℕ
flat_from n s p = flat_addresses (values_at address _ n s p)

-- those from i on
abbrev pub flat_left : ℕ → List ℕ → ℕ → ℕ → List ℕ
flat_left n s p i = flat_from (n - i) s (p + i * 88)

pub flat_start : (n : ℕ) (s : List ℕ) (p : ℕ) → flat_from n s p ≡ flat_left n s p 0
flat_start n s p =
    let all : n - 0 ≡ n = omega arith in
    let here : p + 0 * 88 ≡ p = omega arith in
    rw (all, here)

pub flat_here : (s : List ℕ) → Bytes s → (n p i : ℕ) → i < n → p + n * 88 ≤ length s → {a : NetAddress} {f : AddressFields} → a ≡ address_in s (p + i * 88) → f ≡ address_fields_in s a
    → flat_left n s p i ≡ write flat_address (flat_fields f) ++ flat_left n s p (i + 1)
unfolding values_at
flat_here s bs n p i h k e q =
    let more : n - i ≡ suc (n - (i + 1)) = omega arith in
    let next : p + (i + 1) * 88 ≡ p + i * 88 + 88 = omega arith in
    let there : p + i * 88 + 88 ≤ length s = omega arith in
    let is = q ∙ (ap (address_fields_in s) (e ∙ address_there s bs (p + i * 88) there) ∙ fields_there s bs (p + i * 88) there) in
    rw (more, is, next)

pub flat_end : (n i : ℕ) (s : List ℕ) (p : ℕ) → n ≤ i → flat_left n s p i ≡ []
unfolding values_at
flat_end n i s p h = let none_left : n - i ≡ 0 = omega arith in rw none_left

-- ---- what they fill of an output

flat_length : (s : List ℕ) → Bytes s → (n p : ℕ) → p + n * 88 ≤ length s → length (flat_from n s p) ≡ n * 67
flat_length s bs n p h =
    let vs = values_at address _ n s p in
    let many = length_all flat_address _ (map flat_address_of vs) (all_flat vs (items_fit address _ s bs n p h)) in
    omega (arith, many, length-map vs flat_address_of, length_values address _ n s p)

pub flat_taken : (s : List ℕ) → Bytes s → (n p : ℕ) → p + n * 88 ≤ length s → n ≤ max_addresses → {o o' : List ℕ} {q q' : ℕ} → length o ≡ 67000 → q ≡ 0 → Put o q (flat_from n s p) o' q' → take q' o' ≡ flat_from n s p
flat_taken s bs n p h few {o} {o'} {q} {q'} room e put =
    let x = flat_from n s p in
    let long = flat_length s bs n p h in
    let end = put_end (omega (arith, room)) (omega (arith, e, long, room)) put in
    let all : q' ≡ length (flat_from n s p) = omega (arith, end, e) in
    rw (all, (from_start e put).bytes) (front_is x o (omega (arith, long, room)))
