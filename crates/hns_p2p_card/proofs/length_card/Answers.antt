use Rattle.std.proofs.Common.{arith, sym, ap, ◌∙◌}
use Rattle.std.specs.Option.{is_some}
use borrow.Author.Tests.{ltb-false}
use Rattle.hns_p2p_card.proofs.Card.{past_rows}
use Rattle.hns_p2p_card.proofs.length_card.Goals as goal

pub returns-in-None : goal.returns-in-None
returns-in-None c =
    let past = ltb-false c.from.result 30 (sym c.get.ensures.lookup.0 ∙ ap is_some c.in-None.is) in
    past_rows c.args.packet_type (omega arith)
