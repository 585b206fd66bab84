-- `put_text` meets its contract: one more byte is masked.
use Rattle.hns_p2p_packet.proofs.Texts.{mask_next}
use Rattle.hns_p2p_packet.proofs.put_text.Goals as goal

pub loop-i-preserved : goal.loop-i-preserved
loop-i-preserved c = mask_next _ _ _ c.loop-i.invariant c.loop-i-test.true
