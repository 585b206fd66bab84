-- What a long case is put in: zeros, but for the bytes that its line gives.
use Rattle.std.specs.Prelude.{ℕ, ◌+◌, ◌-◌, ◌≤◌, ◌<◌, ◌≡◌, List, ◌++◌, length, take, drop, replicate, ◌⊎◌, get_or}

abbrev pub Zeros : List ℕ → Type 0
Zeros o = (k : ℕ) → get_or o k 0 ≡ 0

-- zeros from a place to an end, and from where the case ends on
abbrev pub Around : List ℕ → ℕ → ℕ → ℕ → Type 0
Around o place end size = (k : ℕ) → place ≤ k → (k < end) ⊎ (size ≤ k) → get_or o k 0 ≡ 0

-- a long case: the bytes given before a place, zeros, and the other bytes given; what there is no room for is left out
unfoldable pub long_case : List ℕ → ℕ → ℕ → ℕ → List ℕ
long_case given before zeros room = take room (take before given ++ (replicate (before - length given + zeros) 0 ++ drop before given))
