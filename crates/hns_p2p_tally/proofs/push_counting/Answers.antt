-- `push_counting` meets its contract: what the push delivers is counted.
use mathlib.Core.Path.{refl}
use borrow.Author.Rules.{rules}
use native.Mathlib.Omega.{arith}
use Rattle.hns_p2p_tally.proofs.Tested.{takes_in_away, takes_in_short, takes_in_full, takes_in_all, few}
use Rattle.hns_p2p_tally.proofs.Owed.{joined, turned, refuses, is_whole, counts}
use Rattle.hns_p2p_tally.proofs.push_counting.Goals as goal

pub returns-in_err-total : goal.returns-in_err-total
returns-in_err-total c = turned _ _ _ _ _ _ (takes_in_away _ _ _ _ _ c.take_in.ensures c.in_err-total.was) refl (search rules) refl

pub returns-in_default : goal.returns-in_default
returns-in_default c = turned _ _ _ _ _ _ (takes_in_short _ _ _ _ _ c.take_in.ensures c.in_ok-total.was c.in_default.ensures.cases) refl refl refl

pub check_room-requires : goal.check_room-requires
check_room-requires c = omega (arith, few _ _ _ _ c.args.tally.now c.take_in.ensures c.in_ok-total.was)

pub returns-in_err-check_room : goal.returns-in_err-check_room
returns-in_err-check_room c =
    let chunk = c.in-Some.ensures.cases in
    turned _ _ _ _ _ _ (takes_in_full _ _ _ _ _ c.take_in.ensures c.in_ok-total.was chunk.enough chunk.same c.check_room.ensures c.in_err-check_room.was) refl (search rules) (joined chunk.same)

pub returns-in_default-delivered : goal.returns-in_default-delivered
returns-in_default-delivered c =
    let chunk = c.in-Some.ensures.cases in
    refuses _ _ _ _ _ _ (takes_in_all _ _ _ _ _ c.take_in.ensures c.in_ok-total.was chunk.enough chunk.same c.check_room.ensures c.in_ok-check_room.was) refl c.push-pushed.ensures c.in_default-delivered.is (joined chunk.same)

pub count-requires : goal.count-requires
count-requires c =
    let chunk = c.in-Some.ensures.cases in
    is_whole _ _ _ _ _ _ (takes_in_all _ _ _ _ _ c.take_in.ensures c.in_ok-total.was chunk.enough chunk.same c.check_room.ensures c.in_ok-check_room.was) refl c.push-pushed.ensures (λ i. search rules) (λ i. search rules) c.in-Ok.is c.first-handed.ensures

pub returns : goal.returns
returns c =
    counts _ _ _ _ _ _ (takes_in_all _ _ _ _ _ c.take_in.ensures c.in_ok-total.was c.in-Some.ensures.cases.enough c.in-Some.ensures.cases.same c.check_room.ensures c.in_ok-check_room.was) refl c.push-pushed.ensures (λ i. search rules) (λ i. search rules) c.in-Ok.is c.first-handed.ensures (λ i. search rules) c.in-Some.ensures.cases.same c.count.ensures
