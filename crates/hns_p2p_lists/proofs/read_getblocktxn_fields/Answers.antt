use Rattle.hns_encoding.proofs.Numbers.{bytes_known}
use Rattle.hns_p2p_lists.proofs.Requests.{txn_read}
use Rattle.hns_p2p_lists.proofs.read_getblocktxn_fields.Goals as goal

pub returns : goal.returns
returns c =
    let bs = bytes_known c.args.payload.now (λ i. (c.shared_slice_known-1.given i).fits) in
    txn_read _ c.read_slice.ensures c.in_ok-hash.was c.read_count.ensures c.in_ok-value.was c.pass_indexes.ensures c.in_ok-passed.was c.finish.ensures bs c.in_ok-finish.was
