use Prim.Native.Nat.{ℕ, ◌+◌}
use mathlib.Core.Path.{◌≡◌, ap}
use lib.ListN.{length}
use Rattle.hns_encoding.specs.Bytes.{choose}
use Rattle.hns_p2p_types.specs.Protocol.{carries_hash}
use Rattle.hns_p2p_plans.proofs.Texts.{reject_planned}
use Rattle.hns_p2p_plans.proofs.plan_reject.Goals as goal
use Rattle.hns_p2p_plans.proofs.plan_reject.Goals.{then-carries, else-carries}

pub returns : goal.returns
returns c =
    let z = c.args in
    let carries = c.carries_reject_hash-carries.ensures in
    let hash : c.if-carries.hash ≡ choose (carries_hash z.message) 32 0 = elim c.if-carries.branch [
      | then-carries w ↦ rw (← carries, w.if-carries.true) w.hash-is
      | else-carries w ↦ rw (← carries, w.if-carries.false) w.hash-is
    ] in
    reject_planned z.message z.reason.now z.present _ z.there c.check_text.ensures c.in_ok-check_text.was carries c.check_hash.ensures c.in_ok-check_hash.was c.plan_room.ensures (ap (λ (k : ℕ). 3 + length z.reason.now + k) hash)
