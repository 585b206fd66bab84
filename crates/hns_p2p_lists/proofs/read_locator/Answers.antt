use Rattle.hns_encoding.proofs.Numbers.{bytes_known}
use Rattle.hns_p2p_lists.proofs.Listed.{locator_read}
use Rattle.hns_p2p_lists.proofs.read_locator.Goals as goal

pub returns : goal.returns
returns c =
    let bs = bytes_known c.args.payload.now (λ i. (c.shared_slice_known-1.given i).fits) in
    locator_read _ c.read.ensures c.in_ok-locator.was c.read_slice.ensures c.in_ok-hash.was c.finish.ensures bs c.in_ok-finish.was
