-- What the contract of a private function says besides. No public contract and no law cites this file.
use Rattle.std.specs.Prelude.{ℕ, ltb, Ok, Err}
use Rattle.hns_refusals.specs.Refusals.{Answer, no_role}
use Rattle.hns_encoding.specs.Bytes.{choose}
use Rattle.hns_p2p_rights.specs.Terms.{Terms, own_mask}

-- the mask of the role, or 21
unfoldable pub own : Terms → Answer ℕ
own u = choose (ltb u.role 8) (Ok (own_mask u)) (Err no_role)
