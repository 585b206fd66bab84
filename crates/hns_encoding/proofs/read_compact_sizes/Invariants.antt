use Rattle.hns_encoding.proofs.Runs.{ReadTo}
use Rattle.hns_encoding.proofs.read_compact_sizes.Given as goal

abbrev pub invariant-loop-count : goal.invariant-loop-count
invariant-loop-count l = ReadTo l.input l.position l.initial.values l.values l.count l.next
