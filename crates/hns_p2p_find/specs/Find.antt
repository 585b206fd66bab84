-- Document 01, 'The packet', its paragraph on the finder: a place of an inventory item with a hash among the items of a payload that reads, none exactly if no item has it, and the refusal of a payload that doesn't read. Types other than 6, 7 and 8 have no inventory items.
-- Document 01 leaves open which of several places is answered, so `Finds` states the place by its property and all else by equality.
use Rattle.std.specs.Prelude.{ℕ, zero, suc, ◌≡◌, List, [], ◌∷◌, ◌↔◌, Option, Some, None, Ok, Err}
use Rattle.hns_refusals.specs.Refusals.{Answer}
use Rattle.hns_encoding.specs.Bytes.{part, Bytes, Outcome, got, stop}
use Rattle.hns_p2p_types.specs.declared.Item.TheVariants as I
use Rattle.hns_p2p_items.specs.Items.{Element, an_address, an_inventory, a_hash, a_header, an_index, Listed, listed_of, item_of}

-- an inventory item with this hash
abbrev pub Is : List ℕ → Element → Type 0
Is h (an_inventory v) = v.1 ≡ h
Is h (an_address v) = ⊥
Is h (a_hash v) = ⊥
Is h (a_header v) = ⊥
Is h (an_index i) = ⊥

-- the item at a place is one with this hash
abbrev pub Has : List ℕ → List Element → ℕ → Type 0
Has h [] k = ⊥
Has h (e ∷ es) zero = Is h e
Has h (e ∷ es) (suc k) = Has h es k

-- no item has it
abbrev pub Nowhere : List ℕ → Listed → Type 0
Nowhere h l = (k : ℕ) → Has h l.elements k → ⊥

-- what the finder may answer
unfoldable pub Finds : Outcome Listed → List ℕ → Answer (Option ℕ) → Type 0
Finds (got l last) h (Ok (Some k)) = Has h l.elements k
Finds (got l last) h (Ok None) = Nowhere h l
Finds (got l last) h (Err r) = ⊥
Finds (stop r) h (Ok f) = ⊥
Finds (stop r) h (Err q) = q ≡ r

-- ---- what the answers say, of any finder that meets its contract

-- `none_exactly` of proofs/Finding.antt: of a payload that reads, none is answered exactly if no item has the hash
abbrev pub NoneExactly : Type 0
NoneExactly = (l : Listed) (last : ℕ) (h : List ℕ) (f : Answer (Option ℕ)) → Finds (got l last) h f → (f ≡ Ok None) ↔ Nowhere h l

-- the item fetched at a place is an inventory item with this hash
pub record ItemThere (t : ℕ) (s : List ℕ) (k : ℕ) (h : List ℕ) : Type 0 where
  pub kind : ℕ
  pub place : ℕ
  pub item : item_of t s k ≡ Ok (I.Inventory kind place)
  pub bytes : part s place 32 ≡ h

-- `found_item` of proofs/Finding.antt: so it is at the answered place
abbrev pub FoundItem : Type 0
FoundItem = (t : ℕ) (s : List ℕ) → Bytes s → (h : List ℕ) (k : ℕ) → Finds (listed_of t s) h (Ok (Some k)) → ItemThere t s k h
