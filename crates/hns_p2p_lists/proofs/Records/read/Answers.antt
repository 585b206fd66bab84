-- `read` meets its contract: where the records do not all fit, the bytes end in one of them.
use Rattle.std.proofs.Common.{arith}
use Rattle.hns_p2p_lists.proofs.Listed.{list_short}
use Rattle.hns_p2p_lists.proofs.Records.read.Goals as goal

pub returns-then-there-bytes : goal.returns-then-there-bytes
returns-then-there-bytes c =
    list_short _ _ _ _ c.read_count.ensures c.in_ok-value.was _ c.args.self.sums c.args.self.some (omega arith) c.remaining-there.ensures c.ends_in.ensures
