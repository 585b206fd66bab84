-- What the tests before the fields answer, by which of them turns a payload away.
use Rattle.std.proofs.Common.{◌≡◌, ℕ, ◌<◌, ◌≤◌, sym, ◌∙◌}
use borrow.Author.Tests.{le-leb, lt-leb}
use Rattle.std.specs.Prelude.{Result, Ok, Err}
use Rattle.hns_refusals.specs.declared.Refusal.{Refusal}
use Rattle.hns_refusals.specs.Checks.{first}
use Rattle.hns_refusals.specs.Limits.{max_payload}
use Rattle.hns_refusals.specs.Refusals.{payload_too_large}
use Rattle.hns_p2p_rights.specs.Terms.{Terms}
use Rattle.hns_p2p_rights.specs.Rights.{may_send}
use Rattle.hns_p2p_admission.specs.Admission.{not_too_large, admitted}

module _ (u : Terms) (t n : ℕ) {sent : Result (Unit {0}) Refusal} (e : sent ≡ may_send u t) where
  pub not_sent : {r : Refusal} → sent ≡ Err r → Err r ≡ admitted u t n
  unfolding admitted first not_too_large
  not_sent g = rw (sym e ∙ g)

  pub too_large : {v : Unit {0}} → sent ≡ Ok v → max_payload < n → Err (payload_too_large n) ≡ admitted u t n
  unfolding admitted first not_too_large
  too_large g h = rw (sym e ∙ g, lt-leb n max_payload h)

  pub passed : {v : Unit {0}} → sent ≡ Ok v → n ≤ max_payload → Ok tt ≡ admitted u t n
  unfolding admitted first not_too_large
  passed g h = rw (sym e ∙ g, le-leb n max_payload h)
