-- `push_held` meets its contract: where no test turns it away, it settles the store with the input in it.
use borrow.Author.Rules.{rules}
use Rattle.hns_encoding.proofs.Puts.{front_all}
use Rattle.hns_p2p_frame.proofs.Settles.{taken_long, taken_put, turned, settles}
use Rattle.hns_p2p_frame.proofs.push_held.Goals as goal

pub returns-in_err-total : goal.returns-in_err-total
returns-in_err-total c = turned _ _ _ _ _ c.take_in.ensures c.in_err-total.was (search rules)

pub returns : goal.returns
returns c =
    let there = front_all _ _ (taken_long _ _ _ _ c.take_in.ensures c.in_ok-total.was) c.put_front.ensures in
    settles _ _ _ _ _ c.take_in.ensures c.in_ok-total.was (taken_put _ _ _ _ c.take_in.ensures c.in_ok-total.was there) c.settle.ensures
