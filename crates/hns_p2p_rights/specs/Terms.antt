-- Document 02: what a payload is read under, and what holds if nothing of it is named.
use Rattle.std.specs.Prelude.{ℕ, ◌-◌, ◌%◌, ◌^◌, ◌<◌, ◌≡◌, List, [], ◌∷◌, length, get_or, take, replicate, leb}
use Rattle.hns_encoding.specs.Bytes.{choose}

pub record Terms : Type 0 where
  -- T-02: the role of a peer, and the masks of roles 0 to 7
  pub role : ℕ
  pub masks : List ℕ

-- the mask of the role; one that is not there grants nothing
abbrev pub own_mask : Terms → ℕ
own_mask u = get_or u.masks u.role 0

-- 31 ones
abbrev pub full_mask : ℕ
full_mask = 2 ^ 31 - 1

-- the terms of every claim that names none
pub record Full (u : Terms) : Type 0 where
  -- T-02: a role whose bits 0 to 30 are ones, whatever its other bits and the other masks are
  pub a_role : u.role < 8
  pub all : own_mask u % 2 ^ 31 ≡ full_mask

-- ---- the numbers that a call is lent

-- of no numbers at all
abbrev pub no_terms : Terms
no_terms = record { role = 0; masks = replicate 8 full_mask }

-- the role, then eight masks; of fewer none is taken, so that terms which were cut grant nothing
unfoldable pub terms_of : List ℕ → Terms
terms_of [] = no_terms
terms_of (role ∷ masks) = record { role = role; masks = choose (leb 8 (length masks)) (take 8 masks) [] }
