-- What reads by a layout: no longer than a payload may be, its fields read to its end. Assumes nothing.
use Prim.Native.Nat.{ℕ, ◌≤◌}
use mathlib.Core.Path.{◌≡◌}
use mathlib.Core.List.{List}
use lib.ListN.{length}
use lib.Dec.{leb}
use borrow.Author.Tests.{le-leb, leb-true}
use Rattle.hns_refusals.specs.Limits.{max_payload}
use Rattle.hns_encoding.specs.Bytes.{got, to_end}
use Rattle.hns_encoding.specs.Format.{Value, read}
use Rattle.hns_encoding.proofs.Outcomes.{choose_got}
use Rattle.hns_p2p_types.specs.Protocol.{Layout, read_by}

module _ (l : Layout) (s : List ℕ) {v : Value (l (length s))} {last : ℕ} where
  pub by_got : read_by l s ≡ got v last → (length s ≤ max_payload) × (to_end (read (l (length s))) s ≡ got v last)
  unfolding read_by
  by_got e = let g = choose_got (leb (length s) max_payload) _ _ e in (leb-true _ _ g.0, g.1)

  -- and the other way
  pub by_reads : length s ≤ max_payload → to_end (read (l (length s))) s ≡ got v last → read_by l s ≡ got v last
  unfolding read_by
  by_reads h e = rw (le-leb (length s) max_payload h) e
