use borrow.Author.Rules.{rules}
use Rattle.hns_p2p_list_puts.proofs.Items.{item_fields}
use Rattle.hns_p2p_list_puts.proofs.fields_of.Goals as goal

pub returns : goal.returns
returns c =
    item_fields c.args.item.now (search rules) c.u64_at.ensures c.u64_at-2.ensures c.array_at.ensures c.u16_at.ensures c.array_at-2.ensures
