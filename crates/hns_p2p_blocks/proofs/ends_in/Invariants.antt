use Prim.Native.Nat.{◌+◌, ◌-◌}
use mathlib.Core.Path.{◌≡◌}
use lib.ListN.{length, drop}
use Rattle.hns_encoding.specs.Format.{short}
use Rattle.hns_p2p_blocks.proofs.ends_in.Given as goal

abbrev pub invariant-loop-width : goal.invariant-loop-width
invariant-loop-width l =
    (l.place + l.left ≡ l.at + (length l.payload - l.at)) × (short l.widths l.at (length l.payload - l.at) ≡ short (drop l.width-index l.widths) l.place l.left)
