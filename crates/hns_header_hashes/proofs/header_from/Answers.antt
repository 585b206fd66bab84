use Rattle.hns_header_hashes.proofs.Hashes.{from_block}
use Rattle.hns_header_hashes.proofs.header_from.Goals as goal

pub returns-in-Some : goal.returns-in-Some
returns-in-Some c = from_block _ _ _ _ _ c.in-Some.ensures.cases.enough c.in-Some.ensures.cases.same c.header_of.ensures
