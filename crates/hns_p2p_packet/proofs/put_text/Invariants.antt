use Rattle.hns_p2p_packet.proofs.Texts.{Masked}
use Rattle.hns_p2p_packet.proofs.put_text.Given as goal

abbrev pub invariant-loop-i : goal.invariant-loop-i
invariant-loop-i l = Masked l.initial.text l.bytes l.text l.i
