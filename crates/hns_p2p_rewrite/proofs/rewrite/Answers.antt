use mathlib.Core.Path.{◌≡◌, refl, ap, ◌∙◌}
use mathlib.Core.Logic.{⊎_elim}
use lib.IntN.{ℤ}
use mir.Syntax.{w64}
use mir.ValLaws.{to_z-of_z}
use borrow.Author.Rules.{rules}
use Rattle.std.specs.Prelude.{Ok, Err}
use Rattle.hns_encoding.specs.Bytes.{Bytes}
use Rattle.hns_encoding.proofs.Numbers.{bytes_known}
use Rattle.hns_p2p_types.specs.declared.Packet.{Packet}
use Rattle.hns_p2p_rights.specs.Terms.{terms_of}
use Rattle.hns_p2p_writer.specs.Writers.{gives_fee_filter}
use Rattle.hns_p2p_wire.specs.Demand3.{rewriting_under}
use Rattle.hns_p2p_rewrite.proofs.As.{As, as_packet, as_refused}
use Rattle.hns_p2p_rewrite.proofs.rewrite.Goals as goal
use Rattle.hns_p2p_rewrite.proofs.rewrite.Goals.{In_ok-packet}

-- what was read, and what its writer gives, as the packet of an arm
said : (c : In_ok-packet) {p : Packet} → c.in_ok-packet.packet ≡ p → As p c.args.payload.now c.read_packet.new.text c.args.out.now (rewriting_under (terms_of c.args.terms.now) c.args.packet_type c.args.payload.now c.args.out.now)
said c is =
    let z = c.args in
    let bytes : Bytes z.payload.now = bytes_known _ (λ i. (c.type_inv.payload i).fits) in
    as_packet (terms_of z.terms.now) z.packet_type z.payload.now bytes _ refl z.out.now c.read_packet.ensures.value c.read_packet.ensures.text_after (c.in_ok-packet.was ∙ ap Ok is)

pub returns-in_err-packet : goal.returns-in_err-packet
returns-in_err-packet c =
    let z = c.args in
    let bytes : Bytes z.payload.now = bytes_known _ (λ i. (c.type_inv.payload i).fits) in
    let told : c.from_residual.result ≡ Err c.in_err-packet.field-0.0 = search rules in
    rw told (as_refused (terms_of z.terms.now) z.packet_type z.payload.now bytes _ refl z.out.now c.read_packet.ensures.value c.read_packet.ensures.text_after c.in_err-packet.was)

pub rewrite_addr-requires : goal.rewrite_addr-requires
rewrite_addr-requires c = let a = said (goal.at.rewrite_addr-requires c).In_ok-packet c.in-Addr.is in (a.0, a.1)

pub returns-in-Version : goal.returns-in-Version
returns-in-Version c = c.rewrite_version.ensures ∙ said (goal.at.returns-in-Version c).In_ok-packet c.in-Version.is

pub returns-in-Ping : goal.returns-in-Ping
returns-in-Ping c = let at = (goal.at.returns-in-Ping c).In_ok-packet in c.write_nonce.ensures ∙ ⊎_elim (said at) (said at) c.in-Ping.is

pub returns-in-Addr : goal.returns-in-Addr
returns-in-Addr c = c.rewrite_addr.ensures ∙ (said (goal.at.returns-in-Addr c).In_ok-packet c.in-Addr.is).2

pub returns-in-Inv : goal.returns-in-Inv
returns-in-Inv c = let at = (goal.at.returns-in-Inv c).In_ok-packet in c.rewrite_inventory.ensures ∙ ⊎_elim (said at) (⊎_elim (said at) (said at)) c.in-Inv.is

pub returns-in-GetBlocks : goal.returns-in-GetBlocks
returns-in-GetBlocks c = let at = (goal.at.returns-in-GetBlocks c).In_ok-packet in c.rewrite_locator.ensures ∙ ⊎_elim (said at) (said at) c.in-GetBlocks.is

pub returns-in-Headers : goal.returns-in-Headers
returns-in-Headers c = rw c.from_place.ensures at c.write_headers.ensures ∙ said (goal.at.returns-in-Headers c).In_ok-packet c.in-Headers.is

pub returns-in-Reject : goal.returns-in-Reject
returns-in-Reject c = c.rewrite_reject.ensures ∙ said (goal.at.returns-in-Reject c).In_ok-packet c.in-Reject.is

pub returns-in-FeeFilter : goal.returns-in-FeeFilter
returns-in-FeeFilter c =
    let fits = to_z-of_z w64 c.in-FeeFilter.rate (search rules) in
    c.write_feefilter.ensures ∙ (ap (λ (r : ℤ). gives_fee_filter r c.args.out.now) fits ∙ said (goal.at.returns-in-FeeFilter c).In_ok-packet c.in-FeeFilter.is)

pub returns-in-SendCmpct : goal.returns-in-SendCmpct
returns-in-SendCmpct c = c.write_sendcmpct.ensures ∙ said (goal.at.returns-in-SendCmpct c).In_ok-packet c.in-SendCmpct.is

pub returns-in-GetBlockTxn : goal.returns-in-GetBlockTxn
returns-in-GetBlockTxn c = c.rewrite_getblocktxn.ensures ∙ said (goal.at.returns-in-GetBlockTxn c).In_ok-packet c.in-GetBlockTxn.is

pub returns-in-GetProof : goal.returns-in-GetProof
returns-in-GetProof c = c.rewrite_getproof.ensures ∙ said (goal.at.returns-in-GetProof c).In_ok-packet c.in-GetProof.is

pub returns-in-Verack : goal.returns-in-Verack
returns-in-Verack c =
    let at = (goal.at.returns-in-Verack c).In_ok-packet in
    c.write_empty.ensures ∙ ⊎_elim (said at) (⊎_elim (said at) (⊎_elim (said at) (⊎_elim (said at) (said at)))) c.in-Verack.is

pub returns-in-Block : goal.returns-in-Block
returns-in-Block c =
    let at = (goal.at.returns-in-Block c).In_ok-packet in
    c.write_raw.ensures ∙ ⊎_elim (λ e. said at e.1) (⊎_elim (λ e. said at e.1) (⊎_elim (λ e. said at e.1) (⊎_elim (λ e. said at e.1) (⊎_elim (λ e. said at e.1) (⊎_elim (λ e. said at e.1) (⊎_elim (λ e. said at e.1) (⊎_elim (λ e. said at e.1) (⊎_elim (λ e. said at e.1) (⊎_elim (λ e. said at e.1) (λ e. said at e.2)))))))))) c.in-Block.is
