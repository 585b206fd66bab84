-- The mask of the role among the numbers that are lent. Assumes nothing.
use Prim.Native.Nat.{ℕ, ◌≤◌, ◌<◌}
use mathlib.Core.Path.{◌≡◌, refl}
use mathlib.Core.List.{List, [], ◌∷◌}
use native.Mathlib.Omega.{arith}
use lib.ListN.{length, get_or, take}
use borrow.Author.Tests.{lt-ltb, le-ltb, le-leb, lt-leb}
use Rattle.std.specs.Prelude.{Ok, Err}
use Rattle.hns_refusals.specs.Refusals.{no_role}
use Rattle.hns_p2p_rights.specs.Terms.{full_mask, terms_of}
use Rattle.hns_p2p_rights.specs.Helpers.{own}

pub own_unnamed : (l : List ℕ) → length l ≡ 0 → Ok full_mask ≡ own (terms_of l)
unfolding own terms_of
own_unnamed [] h = refl
own_unnamed (x ∷ l) h = absurd (omega arith)

module _ (l : List ℕ) {role : ℕ} {masks : List ℕ} (is : l ≡ role ∷ masks) where
  pub own_no_role : 8 ≤ role → Err no_role ≡ own (terms_of l)
  unfolding own terms_of
  own_no_role h = rw is (simp (le-ltb role 8 h))

  pub own_cut : role < 8 → length masks < 8 → Ok 0 ≡ own (terms_of l)
  unfolding own terms_of
  own_cut h c = rw is (simp (lt-ltb role 8 h, lt-leb 8 (length masks) c))

  pub own_lent : role < 8 → 8 ≤ length masks → {eight : List ℕ} → eight ≡ take 8 masks → Ok (get_or eight role 0) ≡ own (terms_of l)
  unfolding own terms_of
  own_lent h c e = rw (is, e) (simp (lt-ltb role 8 h, le-leb 8 (length masks) c))
