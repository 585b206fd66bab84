-- `put_items` meets its contract: what is stored and what is left are all items. Assumes nothing.
use Rattle.std.proofs.Common.{◌≡◌, ◌+◌, ◌-◌, ◌≤◌, length}
use mathlib.Core.Path.{ap, ◌∙◌}
use native.Mathlib.Omega.{arith}
use Rattle.hns_p2p_item_numbers.proofs.Storing.{store_room, store_next, stored_here}
use Rattle.hns_p2p_item_numbers.proofs.put_items.Goals as goal

pub loop-preserved : goal.loop-preserved
loop-preserved g c =
    let s = c.args.payload.now in
    let xs = c.put.new.row in
    let is : xs ≡ g.T.Numbered.numbers s c.loop.at = c.put.ensures in
    let long : length xs ≡ g.row.N = ap length is ∙ g.met.T.Numbered.long s c.loop.at in
    let room : c.loop.to + g.row.N ≤ length c.loop.out = store_room c.loop.invariant c.loop-test.true c.requires.1 in
    let width : c.loop.to + g.row.N - c.loop.to ≡ length xs = omega (arith, long) in
    rw c.BYTES-at.ensures (store_next c.loop.invariant c.loop-test.true long is (stored_here c.loop.out c.loop.to _ xs width (omega (arith, long, room))))
