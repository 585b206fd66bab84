-- Document 02: the tests before the fields of a payload, in their order. The first that turns a payload away is the answer.
use Rattle.std.specs.Prelude.{ℕ, leb, Ok, Err}
use Rattle.hns_refusals.specs.Checks.{first}
use Rattle.hns_refusals.specs.Limits.{max_payload}
use Rattle.hns_refusals.specs.Refusals.{Answer, payload_too_large}
use Rattle.hns_encoding.specs.Bytes.{choose}
use Rattle.hns_p2p_rights.specs.Terms.{Terms}
use Rattle.hns_p2p_rights.specs.Rights.{may_send}

-- 5, of a payload of n bytes
unfoldable pub not_too_large : ℕ → Answer (Unit {0})
not_too_large n = choose (leb n max_payload) (Ok tt) (Err (payload_too_large n))

-- 21 and 22, then 5: of a payload of type t and n bytes
unfoldable pub admitted : Terms → ℕ → ℕ → Answer (Unit {0})
admitted u t n = first (may_send u t) (not_too_large n)
