-- What is written of records, of lists and numbers alone: records as flat items, and what a plan makes of them. Assumes nothing.
use Prim.Native.Nat.{ℕ, suc, ◌+◌, ◌*◌, ◌/◌, ◌<◌}
use mathlib.Core.Path.{◌≡◌, refl, ap, ◌∙◌}
use mathlib.Core.List.{List, [], ◌∷◌, ◌++◌, map}
use native.Mathlib.Omega.{arith}
use lib.ListN.{length, get_or, length-append, length-map}
use Rattle.hns_refusals.specs.Limits.{max_inventory}
use Rattle.hns_refusals.specs.Refusals.{Answer, inventory_field}
use Rattle.hns_refusals.specs.declared.Refusal.{Refusal}
use Rattle.std.specs.Prelude.{Ok, Err}
use Rattle.hns_encoding.specs.Compact.{compact_bytes}
use Rattle.hns_encoding.specs.Format.{All, Fit, write, write_all}
use Rattle.hns_encoding.specs.Put.{Put}
use Rattle.hns_p2p_types.specs.Protocol.{inventory_item, inventory}
use Rattle.hns_p2p_plans.specs.Tests.{within, planned}
use Rattle.hns_p2p_list_puts.specs.Fields.{inventory_of}
use Rattle.hns_encoding.proofs.Blocks.{length_all}
use Rattle.hns_p2p_list_puts.proofs.Items.{flat_back}
use Rattle.hns_p2p_writer.specs.Writing.{exit}
use Rattle.hns_p2p_writer.specs.Writers.{gives_inventory}
use Rattle.hns_p2p_writer.proofs.Writing.{refused, written}
use Rattle.hns_p2p_inventory.specs.declared.Inventory.{Inventory}
use Rattle.hns_p2p_inventory.specs.Items.{item_bytes, flat_items}
use Rattle.hns_p2p_inventory.specs.Laws.{Whole, value_of, SameItems}

-- ---- records as flat items

flat_is : (items : List Inventory) → flat_items items ≡ write_all (write inventory_item) (map value_of items)
unfolding item_bytes write
flat_is [] = refl
flat_is (item ∷ items) = ap (λ (l : List ℕ). item_bytes item ++ l) (flat_is items)

all_fit : (items : List Inventory) → All Whole items → All (Fit inventory_item) (map value_of items)
all_fit [] g = tt
all_fit (item ∷ items) g = (g.0, all_fit items g.1)

pub same_items : SameItems
unfolding inventory_of
same_items items whole = rw (flat_is items) (flat_back inventory_item _ (omega arith) (map value_of items) (all_fit items whole))

module _ (items : List Inventory) (whole : All Whole items) where
  abbrev count : ℕ
  count = length items

  length_flat : length (flat_items items) ≡ count * 36
  length_flat = rw (flat_is items) (length_all inventory_item _ (map value_of items) (all_fit items whole) ∙ ap (λ (n : ℕ). n * 36) (length-map items value_of))

  flat_written : write inventory (inventory_of (flat_items items)) ≡ compact_bytes count ++ flat_items items
  unfolding write
  flat_written = rw (same_items items whole, length-map, ← flat_is items)

-- ---- the records of a slice

-- a record that no turn reads
abbrev pub none : Inventory
none = record { kind = 0; hash = [] }

pub each_whole : (items : List Inventory) → ((i : ℕ) → i < length items → Whole (get_or items i none)) → All Whole items
each_whole [] each = tt
each_whole (item ∷ items) each = (each 0 (omega arith), each_whole items (λ i h. each (suc i) (omega arith)))

-- ---- the writer: its plan refuses and the output stays, or the count and the items are put at the output's front

module _ (items : List Inventory) (all : All Whole items) (o : List ℕ) {plan : Answer ℕ} (e : plan ≡ planned (within (length items) max_inventory inventory_field) (length (compact_bytes (length items)) + length items * 36) (length o)) where
  abbrev x : List ℕ
  x = write inventory (inventory_of (flat_items items))

  size : length (compact_bytes (length items)) + length items * 36 ≡ length x
  size = rw (flat_written items all) (omega (arith, length-append (compact_bytes (length items)) (flat_items items), length_flat items all))

  same_count : length (flat_items items) / 36 ≡ length items
  same_count = omega (arith, length_flat items all)

  pub items_refused : {r : Refusal} → plan ≡ Err r → exit (Err r) o ≡ gives_inventory (flat_items items) o
  items_refused q = refused _ x o (rw same_count e) q size

  pub items_written : {m : ℕ} → plan ≡ Ok m → {p : ℕ} → p ≡ 0 → {o' : List ℕ} {p' : ℕ} → Put o p (compact_bytes (length items) ++ write_all item_bytes items) o' p' → exit (Ok m) o' ≡ gives_inventory (flat_items items) o
  items_written q z put = written _ x o (rw same_count e) q z (rw (flat_written items all) put.bytes) size
