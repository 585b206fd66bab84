-- Document 02, T-02: what the definitions promise together, each by a theorem of proofs/.
use Rattle.std.specs.Prelude.{ℕ, ◌%◌, ◌^◌, ◌≤◌, ◌<◌, ◌≡◌, true, false, List, [], ◌∷◌, ◌↔◌, set, get_or, Ok, Err}
use Rattle.std.specs.Int.Bits.{bit_or}
use Rattle.std.specs.Int.Count.{ones}
use Rattle.hns_refusals.specs.Refusals.{Answer, no_role, not_granted}
use Rattle.hns_p2p_rights.specs.Terms.{Terms, own_mask, Full, terms_of}
use Rattle.hns_p2p_rights.specs.Rights.{granted, count_below, may_send, types_granted}

-- ---- which answer, exactly when

-- the role may send the type
pub record MaySend (u : Terms) (t : ℕ) : Type 0 where
  pub a_role : u.role < 8
  pub a_grant : granted (own_mask u) t ≡ true

pub data SendingIs (u : Terms) (t : ℕ) : Answer (Unit {0}) → Type 0 where
  if_no_role : 8 ≤ u.role → SendingIs u t (Err no_role)
  if_not_granted : u.role < 8 → granted (own_mask u) t ≡ false → SendingIs u t (Err not_granted)
  if_may_send : MaySend u t → SendingIs u t (Ok tt)

pub data CountIs (u : Terms) : Answer ℕ → Type 0 where
  no_count : 8 ≤ u.role → CountIs u (Err no_role)
  types : u.role < 8 → CountIs u (Ok (ones (own_mask u % 2 ^ 31)))

-- `ones_are_types`: the granted types are as many as the ones among the mask's 31 bits
abbrev pub OnesAreTypes : Type 0
OnesAreTypes = (mask : ℕ) → ones (mask % 2 ^ 31) ≡ count_below 31 (granted mask)

-- `conditions` of proofs/Conditions.antt
pub record Conditions : Type 0 where
  pub sending : (u : Terms) (t : ℕ) (a : Answer (Unit {0})) → SendingIs u t a ↔ (a ≡ may_send u t)
  pub counting : (u : Terms) (a : Answer ℕ) → CountIs u a ↔ (a ≡ types_granted u)

-- ---- terms that no call tells apart

-- one role, and bits 0 to 30 of its own mask
pub record Alike (u u' : Terms) : Type 0 where
  pub role : u.role ≡ u'.role
  pub bits : own_mask u % 2 ^ 31 ≡ own_mask u' % 2 ^ 31

-- `alike` of proofs/Masks.antt: the calls on rights answer alike
pub record SameRights (u u' : Terms) : Type 0 where
  pub sending : (t : ℕ) → may_send u t ≡ may_send u' t
  pub counting : types_granted u ≡ types_granted u'

abbrev pub AlikeIsSame : Type 0
AlikeIsSame = (u u' : Terms) → Alike u u' → SameRights u u'

-- `other_mask` of proofs/Masks.antt: terms are alike if only another role's mask was changed
abbrev pub OtherMask : Type 0
OtherMask = (role k x : ℕ) (masks : List ℕ) → (role ≡ k → ⊥) → Alike (terms_of (role ∷ masks)) (terms_of (role ∷ set masks k x))

-- ---- granting

-- bits granted to a role, the peer's or another
abbrev pub granting : Terms → ℕ → ℕ → Terms
granting u role bits = record { role = u.role; masks = set u.masks role (bit_or (get_or u.masks role 0) bits) }

-- `still_granted` of proofs/Masks.antt: they turn no permitted frame away
abbrev pub StillGranted : Type 0
StillGranted = (u : Terms) (t role bits : ℕ) → may_send u t ≡ Ok tt → may_send (granting u role bits) t ≡ Ok tt

-- `granting_lent` of proofs/Masks.antt: among the lent numbers they are bits of the role's number
abbrev pub GrantingLent : Type 0
GrantingLent = (role k bits : ℕ) (masks : List ℕ) → terms_of (role ∷ set masks k (bit_or (get_or masks k 0) bits)) ≡ granting (terms_of (role ∷ masks)) k bits

-- ---- the full mask

-- `full` of proofs/Masks.antt: every type byte may be sent, and there are 31 types; no numbers at all are such terms
pub record FullMask : Type 0 where
  pub sending : (u : Terms) → Full u → (t : ℕ) → may_send u t ≡ Ok tt
  pub counting : (u : Terms) → Full u → types_granted u ≡ Ok 31
  pub no_numbers : Full (terms_of [])
