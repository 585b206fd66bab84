use lib.ListN.{drop}
use Rattle.hns_encoding.specs.Format.{differences}
use Rattle.hns_p2p_list_puts.proofs.Rests.{Rest}
use Rattle.hns_p2p_list_puts.proofs.put_differences.Given as goal

abbrev pub invariant-loop-index : goal.invariant-loop-index
invariant-loop-index l =
    Rest l.initial.out l.initial.e.position (differences 0 l.indexes) l.out l.e.position (differences l.base (drop l.index-index l.indexes))
