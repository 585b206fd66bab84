use Prim.Native.Nat.{ℕ}
use lib.ListN.{length-replicate}
use Rattle.hns_encoding.specs.Bytes.{Bytes}
use Rattle.hns_encoding.proofs.Numbers.{bytes_known}
use Rattle.hns_p2p_rewrite.proofs.Fields.{flat_taken}
use borrow.Author.Rules.{rules}
use Rattle.hns_p2p_rewrite.proofs.rewrite_addr.Goals as goal

pub returns : goal.returns
returns c =
    let z = c.args in
    let bytes : Bytes z.payload.now = bytes_known _ (λ i. search rules) in
    let flat = flat_taken z.payload.now bytes z.items.count z.items.first c.requires.1 c.requires.0 (length-replicate {A = ℕ} 67000 0) c.new.ensures c.put_flat_addresses-e.ensures in
    rw (c.first.ensures, flat) at c.write_addr.ensures
