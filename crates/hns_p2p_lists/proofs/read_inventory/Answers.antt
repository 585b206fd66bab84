use mathlib.Core.Path.{◌∙◌}
use Rattle.hns_encoding.specs.Format.{num, raw, ◌▸◌}
use Rattle.hns_encoding.proofs.Numbers.{bytes_known}
use Rattle.hns_p2p_lists.proofs.Listed.{list_answer}
use Rattle.hns_p2p_lists.proofs.read_inventory.Goals as goal

pub returns : goal.returns
returns c =
    let s = c.args.payload.now in
    let bs = bytes_known s (λ i. (c.shared_slice_known-1.given i).fits) in
    c.read_whole.ensures ∙ list_answer 50000 2 (num 4 ▸ raw 32) _ s bs
