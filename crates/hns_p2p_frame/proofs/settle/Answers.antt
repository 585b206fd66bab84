-- `settle` meets its contract: the walk says which bytes are delivered and which stay.
use native.Mathlib.Omega.{arith}
use borrow.Author.Rules.{rules}
use Rattle.hns_p2p_frame.proofs.Settles.{refuses, within, delivers}
use Rattle.hns_p2p_frame.proofs.settle.Goals as goal

-- the frames' bytes are within those that were walked
pub overflow_sub-left : goal.overflow_sub-left
overflow_sub-left c = within c.args.network _ _ c.args.output.now c.requires.0 (λ i. search rules) c.walk_frames.ensures c.in_ok-delivered.was

pub deliver-requires : goal.deliver-requires
deliver-requires c =
    let inside = within c.args.network _ _ c.args.output.now c.requires.0 (λ i. search rules) c.walk_frames.ensures c.in_ok-delivered.was in
    (omega arith, omega arith)

pub returns-in_err-delivered : goal.returns-in_err-delivered
returns-in_err-delivered c = refuses _ _ _ _ c.requires.0 (λ i. search rules) c.walk_frames.ensures c.in_err-delivered.was (search rules)

pub returns : goal.returns
returns c = delivers _ _ _ _ c.requires.0 (λ i. search rules) c.walk_frames.ensures c.in_ok-delivered.was c.deliver.ensures.store_after c.deliver.ensures.output_after
