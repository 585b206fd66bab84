-- What the contracts of private functions say: the lowest place, from the bytes at the items' places. No public contract cites this file.
use Rattle.std.specs.Prelude.{ℕ, ◌+◌, ◌*◌, ◌<◌, ◌≡◌, List, Option, Some, None, Ok, Err}
use Rattle.hns_refusals.specs.Refusals.{Answer}
use Rattle.hns_encoding.specs.Bytes.{part, Outcome, got, stop}
use Rattle.hns_p2p_items.specs.Items.{Listed}
use Rattle.hns_p2p_find.specs.Find.{Has, Finds}

-- the hash of the item at a place, of items from `first` on
abbrev pub hash_at : List ℕ → ℕ → ℕ → List ℕ
hash_at s first k = part s (first + k * 36 + 4) 32

-- none of the first n items has the hash
abbrev pub NoneBelow : ℕ → List ℕ → ℕ → List ℕ → Type 0
NoneBelow n s first h = (j : ℕ) → j < n → hash_at s first j ≡ h → ⊥

unfoldable pub Scanned : List ℕ → ℕ → ℕ → List ℕ → Option ℕ → Type 0
Scanned s first count h (Some k) = (k < count) × (hash_at s first k ≡ h) × NoneBelow k s first h
Scanned s first count h None = NoneBelow count s first h

-- no item at a lower place has the hash
unfoldable pub Lowest : Outcome Listed → List ℕ → Answer (Option ℕ) → Type 0
Lowest (got l last) h (Ok (Some k)) = (j : ℕ) → j < k → Has h l.elements j → ⊥
Lowest (got l last) h (Ok None) = Unit {0}
Lowest (got l last) h (Err r) = Unit {0}
Lowest (stop r) h f = Unit {0}

pub record FindsLowest (o : Outcome Listed) (h : List ℕ) (f : Answer (Option ℕ)) : Type 0 where
  pub finds : Finds o h f
  pub lowest : Lowest o h f
