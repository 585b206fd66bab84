use Prim.Native.Nat.{ℕ, ◌<◌}
use lib.ListN.{get_or}
use Rattle.hns_p2p_inventory.specs.Laws.{Whole}
use Rattle.hns_p2p_inventory.proofs.Items.{none}
use Rattle.hns_p2p_inventory.proofs.all_whole.Given as goal

abbrev pub invariant-loop-item : goal.invariant-loop-item
invariant-loop-item l = (i : ℕ) → i < l.item-index → Whole (get_or l.items i none)
