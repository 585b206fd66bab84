use Rattle.std.proofs.Common.{◌≡◌, ◌-◌, rules}
use Rattle.std.specs.Prelude.{replicate}
use Rattle.case_input.proofs.Zeros.{cleared}
use Rattle.case_input.proofs.clear_long.Goals as goal

pub returns : goal.returns
returns c around =
    let front : c.fill.new.self ≡ replicate c.min-zeros.result 0 = let h = c.fill.ensures.after (λ y e. e) in search rules in
    let back : c.fill-2.new.self ≡ replicate (c.min-size.result - c.min-end.result) 0 = let h = c.fill-2.ensures.after (λ y e. e) in search rules in
    rw (front, back) (cleared c.args.long.now c.args.put.zeros c.args.put.end c.args.put.size c.min-zeros.ensures c.min-size.ensures c.min-end.ensures around)
