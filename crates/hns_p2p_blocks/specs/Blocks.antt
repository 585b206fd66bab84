-- What `close` answers.
use Rattle.std.specs.Prelude.{Ok, Err}
use Rattle.hns_refusals.specs.Refusals.{Answer}
use Rattle.hns_encoding.specs.Bytes.{Outcome, got, stop}
use Rattle.hns_p2p_types.specs.declared.Packet.{Packet}

-- the packet unless something is refused
abbrev pub gate : Outcome (Unit {0}) → Packet → Answer Packet
gate (got u last) packet = Ok packet
gate (stop r) packet = Err r
