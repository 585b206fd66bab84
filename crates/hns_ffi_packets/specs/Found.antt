-- What the finder answers, as a row: of its place document 01 says a property alone.
use Rattle.std.specs.Prelude.{ℕ, ◌≡◌, List, Option}
use Rattle.hns_refusals.specs.Refusals.{Answer}
use Rattle.hns_encoding.specs.Bytes.{Outcome}
use Rattle.hns_p2p_items.specs.Items.{Listed}
use Rattle.hns_p2p_find.specs.Find.{Finds}
use Rattle.hns_rows.specs.Rows.{answered}
use Rattle.hns_packet_rows.specs.Rows.{found_row}

-- the caller's numbers before and after
pub record FoundAnswered (listed : Outcome Listed) (hash before after : List ℕ) : Type 0 where
  pub found : Answer (Option ℕ)
  pub finds : Finds listed hash found
  pub row : after ≡ answered before (found_row found)
