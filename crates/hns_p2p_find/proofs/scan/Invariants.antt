use Rattle.hns_p2p_find.specs.Helpers.{NoneBelow}
use Rattle.hns_p2p_find.proofs.scan.Given as goal

abbrev pub invariant-loop-place : goal.invariant-loop-place
invariant-loop-place l = NoneBelow l.place l.payload l.items.first l.hash
