use Rattle.hns_header_consensus.proofs.Headers.{placed}
use Rattle.hns_header_consensus.proofs.read_header.Goals as goal

pub returns : goal.returns
returns c = placed _ _ c.read_array.ensures c.in_ok-block.was c.from.ensures
