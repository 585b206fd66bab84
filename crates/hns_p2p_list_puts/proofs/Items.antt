-- Flat lists: what is copied is what is written item by item, and every item can be written. Assumes nothing.
use Prim.Native.Nat.{ℕ, zero, suc, ◌+◌, ◌-◌, ◌*◌, ◌/◌, ◌%◌, ◌^◌, ◌≤◌, ◌<◌}
use mathlib.Core.Path.{◌≡◌, refl, ap, ap₂, ◌∙◌}
use mathlib.Core.List.{List, [], ◌∷◌, ◌++◌, map, append-nil, append_assoc}
use native.Mathlib.Omega.{arith}
use native.Mathlib.Nat.{suc-mul, div-mul-le_self, mul-div_cancel}
use lib.ListN.{length, take, drop, replicate, length-append}
use lib.Seq.{length-take-le, drop-drop}
use Rattle.std.specs.Simd.{first_chunks}
use Rattle.hns_encoding.specs.Bytes.{Bytes, part, number_at, raw_at}
use Rattle.hns_encoding.specs.Compact.{compact_bytes}
use Rattle.hns_encoding.specs.Format.{Format, raw, whole, counted, Value, Fixed, fixed_flat, Fit, All, size, value_at, write, write_all, values_at}
use Rattle.hns_encoding.specs.Marks.{Mark, keep, marks, mark_all}
use Rattle.hns_encoding.proofs.Numbers.{part_add}
use Rattle.hns_encoding.proofs.Reading.{raw_there, part_inside, number_inside}
use Rattle.hns_encoding.proofs.Back.{back}
use Rattle.hns_encoding.proofs.Blocks.{block_fits, fixed_length, length_all, length_values}
use Rattle.hns_encoding.proofs.Forward.{forward, mark_keep}
use Rattle.hns_refusals.specs.Limits.{block_header_size}
use Rattle.hns_header_consensus.specs.Layout.{header}
use Rattle.hns_p2p_types.specs.Protocol.{address, addresses, inventory_item, inventory, locator, headers}
use Rattle.hns_p2p_block_puts.specs.Fields.{address_value}
use Rattle.hns_p2p_list_puts.specs.Laws.{FlatBack, AddressesBack}
use Rattle.hns_p2p_list_puts.specs.Fields.{flat_address_of, flat, flat_address, low_services, addresses_of, inventory_of, hashes_of, headers_of}

-- ---- items whose bytes are all kept

abbrev Kept : Format → Type 0
Kept f = (s : List ℕ) (p : ℕ) → marks f s p ≡ replicate (size f) keep

module _ (f : Format) (x : Fixed f) (s : List ℕ) (bs : Bytes s) where
  -- an item that stands at a place can be written
  item_fit : (p : ℕ) → p + size f ≤ length s → Fit f (value_at f (fixed_flat f x) s p)
  item_fit p h = (forward f s bs p (omega arith) (value_at f (fixed_flat f x) s p) (p + size f) (block_fits f x s p (omega arith))).fit

  pub items_fit : (n p : ℕ) → p + n * size f ≤ length s → All (Fit f) (values_at f x n s p)
  unfolding values_at
  items_fit zero p h = tt
  items_fit (suc n) p h =
      let step = suc-mul n (size f) in
      (item_fit p (omega arith), items_fit n (p + size f) (omega arith))

  module _ (kept : Kept f) where
    item_kept : (p : ℕ) → p + size f ≤ length s → write f (value_at f (fixed_flat f x) s p) ≡ part s p (size f)
    item_kept p h =
        (forward f s bs p (omega arith) (value_at f (fixed_flat f x) s p) (p + size f) (block_fits f x s p (omega arith))).same
        ∙ ap (λ (ms : List Mark). mark_all ms (drop p s)) (kept s p)
        ∙ mark_keep (size f) (drop p s)

    items_kept : (n p : ℕ) → p + n * size f ≤ length s → write_all (write f) (values_at f x n s p) ≡ part s p (n * size f)
    unfolding values_at
    items_kept zero p h = let none : 0 * size f ≡ 0 = omega arith in rw none
    items_kept (suc n) p h =
        let step = suc-mul n (size f) in
        let more : suc n * size f ≡ size f + n * size f = omega arith in
        rw (more, part_add, item_kept p (omega arith), items_kept n (p + size f) (omega arith))

    -- a count and a copy of the whole items
    pub flat_kept : (limit field : ℕ) → write (counted limit field f) (flat f x s) ≡ compact_bytes (length s / size f) ++ take (length s / size f * size f) s
    unfolding write flat
    flat_kept limit field =
        rw (length_values f x (length s / size f) s 0, items_kept (length s / size f) 0 (omega (arith, div-mul-le_self (length s) (size f))))

-- ---- one copy of whole items

module _ (s : List ℕ) (w : ℕ) where
  abbrev many : ℕ
  many = length s / w

  pub copied_inside : many * w ≤ length s
  copied_inside = div-mul-le_self (length s) w

  pub length_copied : (last : List ℕ) → length (compact_bytes many) + many * w + length last ≡ length (compact_bytes many ++ (take (many * w) s ++ last))
  length_copied last = simp length-append (omega (arith, length-take-le (many * w) s copied_inside))

module _ (s : List ℕ) (bs : Bytes s) where
  pub inventory_copied : write inventory (inventory_of s) ≡ compact_bytes (length s / 36) ++ (take (length s / 36 * 36) s ++ [])
  unfolding inventory_of marks
  inventory_copied = flat_kept inventory_item _ s bs (λ t p. refl) 50000 2 ∙ rw append-nil

  pub locator_copied : (stop : List ℕ) → write locator (hashes_of s, stop) ≡ compact_bytes (length s / 32) ++ (take (length s / 32 * 32) s ++ stop)
  unfolding hashes_of write marks
  locator_copied stop = ap (λ (l : List ℕ). l ++ stop) (flat_kept (raw 32) _ s bs (λ t p. refl) 50000 3) ∙ append_assoc (compact_bytes (length s / 32)) (take (length s / 32 * 32) s) stop

  pub headers_copied : write headers (headers_of s) ≡ compact_bytes (length s / 236) ++ (take (length s / 236 * 236) s ++ [])
  unfolding headers_of marks
  headers_copied = flat_kept (whole block_header_size header) (refl, _) s bs (λ t p. refl) 2000 4 ∙ rw append-nil

-- ---- addresses

module _ (s : List ℕ) (p : ℕ) (h : p + 67 ≤ length s) where
  abbrev item : List ℕ
  item = part s p 67

  -- an item reads the same in a slice of its own
  item_same : value_at flat_address _ item 0 ≡ value_at flat_address _ s p
  item_same =
      let p1 : p + 8 + 8 ≡ p + 16 = omega arith in
      let p2 : p + 16 + 16 ≡ p + 32 = omega arith in
      let p3 : p + 32 + 2 ≡ p + 34 = omega arith in
      let here : p + 0 ≡ p = omega arith in
      rw (p1, p2, p3, number_inside s p 67 0 8 (omega arith) (omega arith), number_inside s p 67 8 8 (omega arith) (omega arith), part_inside s p 67 16 16 (omega arith), number_inside s p 67 32 2 (omega arith) (omega arith), part_inside s p 67 34 33 (omega arith), here)

-- what is put of an item of 67 bytes
abbrev pub address_in : List ℕ → List ℕ
address_in item = write address (low_services (value_at flat_address _ item 0))

-- the fields of an item that the code reads
pub item_fields : (s : List ℕ) → length s ≡ 67 → {time services port : ℕ} {ip key : List ℕ} → time ≡ number_at 8 s 0 → services ≡ number_at 8 s 8 → ip ≡ raw_at 16 s 16 → port ≡ number_at 2 s 32 → key ≡ raw_at 33 s 34
    → address_value time services ip port key ≡ low_services (value_at flat_address _ s 0)
item_fields s l t v i q k = rw (t, v, i ∙ raw_there 16 s 16 (omega arith), q, k ∙ raw_there 33 s 34 (omega arith))

-- the items one after another are those of the list
pub chunks_put : (n : ℕ) (s : List ℕ) (p : ℕ) → p + n * 67 ≤ length s → write_all address_in (first_chunks 67 n (drop p s)) ≡ write_all (write address) (map low_services (values_at flat_address _ n s p))
unfolding values_at
chunks_put zero s p h = refl
chunks_put (suc n) s p h =
    let step = suc-mul n 67 in
    let here : address_in (take 67 (drop p s)) ≡ write address (low_services (value_at flat_address _ s p)) = ap (λ (v : Value flat_address). write address (low_services v)) (item_same s p (omega arith)) in
    let later : write_all address_in (first_chunks 67 n (drop 67 (drop p s))) ≡ write_all (write address) (map low_services (values_at flat_address _ n s (p + 67))) = rw (drop-drop 67 p s) (chunks_put n s (p + 67) (omega arith)) in
    ap₂ (λ (a b : List ℕ). a ++ b) here later

length_low_services : (vs : List (Value flat_address)) → length (map low_services vs) ≡ length vs
length_low_services [] = refl
length_low_services (v ∷ vs) = ap suc (length_low_services vs)

sent_fit : (v : Value flat_address) → Fit flat_address v → Fit address (low_services v)
sent_fit v g = (g.0, (omega arith, (tt, (g.1.1.0, (g.1.1.1.0, g.1.1.1.1)))))

all_low_services : (vs : List (Value flat_address)) → All (Fit flat_address) vs → All (Fit address) (map low_services vs)
all_low_services [] g = tt
all_low_services (v ∷ vs) g = (sent_fit v g.0, all_low_services vs g.1)

module _ (s : List ℕ) where
  abbrev address_count : ℕ
  address_count = length s / 67

  pub many_addresses : length (addresses_of s) ≡ address_count
  unfolding addresses_of flat
  many_addresses = length_low_services (values_at flat_address _ address_count s 0) ∙ length_values flat_address _ address_count s 0

  pub addresses_written : write addresses (addresses_of s) ≡ compact_bytes address_count ++ write_all address_in (first_chunks 67 address_count s)
  unfolding write addresses_of flat
  addresses_written =
      let chunks = chunks_put address_count s 0 (omega (arith, div-mul-le_self (length s) 67)) in
      rw (many_addresses, chunks)

  module _ (bs : Bytes s) where
    pub addresses_all : All (Fit address) (addresses_of s)
    unfolding addresses_of flat
    addresses_all = all_low_services (values_at flat_address _ address_count s 0) (items_fit flat_address _ s bs address_count 0 (omega (arith, div-mul-le_self (length s) 67)))

    pub length_addresses : length (compact_bytes address_count) + 88 * address_count ≡ length (write addresses (addresses_of s))
    unfolding write
    length_addresses =
        rw (length-append, length_all address _ (addresses_of s) addresses_all, many_addresses) (omega arith)

-- ---- a flat list of given values

-- what reads at a place is what stands there
value_there : (f : Format) (x : Fixed f) (v : Value f) → Fit f v → (before after : List ℕ) → value_at f (fixed_flat f x) (before ++ (write f v ++ after)) (length before) ≡ v
value_there f x v fit before after =
    let long = fixed_length f x v fit in
    let s = before ++ (write f v ++ after) in
    let room : size f ≤ length (before ++ (write f v ++ after)) - length before = simp length-append (omega (arith, long)) in
    let there = block_fits f x (before ++ (write f v ++ after)) (length before) room in
    cc (there, back f v fit before after)

items_back : (f : Format) (x : Fixed f) (vs : List (Value f)) → All (Fit f) vs → (before : List ℕ) → values_at f x (length vs) (before ++ write_all (write f) vs) (length before) ≡ vs
unfolding values_at
items_back f x [] g before = refl
items_back f x (v ∷ vs) g before =
    let long : length (before ++ write f v) ≡ length before + size f = length-append before (write f v) ∙ ap (λ (n : ℕ). length before + n) (fixed_length f x v g.0) in
    let later : values_at f x (length vs) ((before ++ write f v) ++ write_all (write f) vs) (length (before ++ write f v)) ≡ vs = items_back f x vs g.1 (before ++ write f v) in
    let later' : values_at f x (length vs) (before ++ (write f v ++ write_all (write f) vs)) (length before + size f) ≡ vs = rw (long, append_assoc) at later in
    ap₂ (λ (w : Value f) (ws : List (Value f)). w ∷ ws) (value_there f x v g.0 before (write_all (write f) vs)) later'

pub many_all : (f : Format) → Fixed f → 0 < size f → (vs : List (Value f)) → All (Fit f) vs → length (write_all (write f) vs) / size f ≡ length vs
many_all f x h vs g = ap (λ (n : ℕ). n / size f) (length_all f x vs g) ∙ mul-div_cancel (length vs) h

pub flat_back : FlatBack
unfolding flat
flat_back f x h vs g = rw (many_all f x h vs g) (items_back f x vs g [])

flat_address_fit : (v : Value address) → Fit address v → Fit flat_address (flat_address_of v)
flat_address_fit v g = (g.0, (omega (arith, g.1.0), (g.1.1.1.0, (g.1.1.1.1.0, g.1.1.1.1.1))))

pub all_flat : (vs : List (Value address)) → All (Fit address) vs → All (Fit flat_address) (map flat_address_of vs)
all_flat [] g = tt
all_flat (v ∷ vs) g = (flat_address_fit v g.0, all_flat vs g.1)

low_again : (v : Value address) → Fit address v → low_services (flat_address_of v) ≡ v
low_again v g = let low : v.1.0 % 2 ^ 32 ≡ v.1.0 = omega (arith, g.1.0) in rw low

all_low : (vs : List (Value address)) → All (Fit address) vs → map low_services (map flat_address_of vs) ≡ vs
all_low [] g = refl
all_low (v ∷ vs) g = ap₂ (λ (w : Value address) (ws : List (Value address)). w ∷ ws) (low_again v g.0) (all_low vs g.1)

pub addresses_back : AddressesBack
unfolding addresses_of
addresses_back vs g = ap (map low_services) (flat_back flat_address _ (omega arith) (map flat_address_of vs) (all_flat vs g)) ∙ all_low vs g
