-- Document 01, 'The packet', its paragraph on items: those of a payload all at once, as numbers, what is answered, and what the output holds after it.
use Rattle.std.specs.Prelude.{ℕ, suc, List, [], ◌∷◌, ◌++◌, Err}
use Rattle.hns_encoding.specs.Bytes.{Outcome, got, stop}
use Rattle.hns_p2p_types.specs.declared.Item.{Item}
use Rattle.hns_p2p_types.specs.declared.Item.TheVariants as I
use Rattle.hns_p2p_types.specs.Packets.{address_numbers, inventory_numbers}
use Rattle.hns_p2p_rights.specs.Terms.{Terms}
use Rattle.hns_p2p_items.specs.Items.{Element, Listed, answer_at, listed_of, listed_under}
use Rattle.hns_p2p_indexes.specs.Indexes.{Answer, fitted}

-- hashes and headers stand one after another from the first place on, and indexes have their own call
abbrev pub item_numbers : Item → List ℕ
item_numbers (I.Address a) = address_numbers a
item_numbers (I.Inventory kind hash) = inventory_numbers kind hash
item_numbers (I.Hash p) = []
item_numbers (I.Header p) = []
item_numbers (I.Index i) = []

-- of the items from place k on
unfoldable pub numbers_after : Listed → ℕ → List Element → List ℕ
numbers_after l k [] = []
numbers_after l k (e ∷ es) = item_numbers (answer_at l k e) ++ numbers_after l (suc k) es

-- the payload's own refusal first, then 16
abbrev pub numbers_by : Outcome Listed → List ℕ → Answer
numbers_by (got l last) o = fitted (numbers_after l 0 l.elements) o
numbers_by (stop r) o = record { answer = Err r; output = o }

-- of a payload s of type t, with the output o
unfoldable pub numbers_of : ℕ → List ℕ → List ℕ → Answer
numbers_of t s o = numbers_by (listed_of t s) o

-- the same of a payload that is read under terms
unfoldable pub numbers_under : Terms → ℕ → List ℕ → List ℕ → Answer
numbers_under u t s o = numbers_by (listed_under u t s) o
