use mathlib.Core.Path.{ap, ◌∙◌}
use native.Mathlib.Omega.{arith}
use Rattle.hns_encoding.specs.Put.{splice}
use Rattle.hns_encoding.proofs.Puts.{then, from_start}
use Rattle.hns_header_hashes.proofs.Hashes.{first_run, two_runs}
use Rattle.hns_header_hashes.proofs.put_hashes.Goals as goal

pub returns : goal.returns
returns c =
    let first = then (omega arith) (from_start c.new.ensures c.put_array.ensures) c.put_array-2.ensures in
    let all = then (omega arith) first c.put_array-3.ensures in
    all.bytes ∙ ap (splice c.args.out.now 0) (two_runs c.args.block.now (omega arith) (first_run c.args.block.now (omega arith) c.array_at.ensures c.array_at-2.ensures) c.array_at-3.ensures)
