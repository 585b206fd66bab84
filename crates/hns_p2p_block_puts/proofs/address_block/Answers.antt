use mathlib.Core.Path.{◌≡◌}
use lib.ListN.{length}
use Rattle.hns_encoding.proofs.Puts.{put_all}
use Rattle.hns_p2p_block_puts.proofs.Widths.{address_length}
use borrow.Author.Rules.{rules}
use Rattle.hns_p2p_block_puts.proofs.address_block.Goals as goal

pub returns : goal.returns
returns c =
    let a = c.args.fields in
    let ip-long : length a.ip ≡ 16 = search rules in
    let key-long : length a.key ≡ 33 = search rules in
    put_all c.new.ensures (address_length a.time a.services a.ip a.port a.key ip-long key-long) c.put_address.ensures
