use Rattle.hns_header_consensus.proofs.Headers.{alone}
use Rattle.hns_header_consensus.proofs.Header.decode.Goals as goal

pub returns : goal.returns
returns c = alone _ c.in-Ok.ensures.1.long c.in-Ok.ensures.1.same c.from.ensures
