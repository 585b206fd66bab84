use native.Mathlib.Omega.{arith}
use Rattle.hns_encoding.proofs.Puts.{put_all, ◌⨟◌}
use Rattle.hns_p2p_fields.proofs.Lengths.{ip_length}
use Rattle.hns_p2p_fields.proofs.ip_bytes.Goals as goal

pub returns : goal.returns
returns c =
    put_all c.new.ensures (ip_length c.args.first _) ((c.put_u64_le-e.ensures ⨟ (λ h. c.put_u64_le.ensures)) (omega arith))
