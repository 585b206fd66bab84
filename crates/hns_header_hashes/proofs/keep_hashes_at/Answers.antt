use Rattle.hns_header_hashes.proofs.Hashes.{kept_at}
use Rattle.hns_header_hashes.proofs.keep_hashes_at.Goals as goal

pub returns-in-Some : goal.returns-in-Some
returns-in-Some c =
    let chunk = c.in-Some.ensures.cases in
    kept_at _ _ _ c.from_place.ensures chunk.enough chunk.same c.put_hashes.ensures
