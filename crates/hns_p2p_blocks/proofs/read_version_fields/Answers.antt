use mathlib.Core.Path.{◌≡◌, ◌∙◌}
use Rattle.std.proofs.Common.{rules, Err}
use Rattle.hns_p2p_blocks.proofs.Packets.{version_refused, version_read}
use Rattle.hns_p2p_blocks.proofs.read_version_fields.Goals as goal

pub returns-in_err-block : goal.returns-in_err-block
returns-in_err-block c =
    let e : c.from_residual.result ≡ Err c.in_err-block.field-0.0 = search rules in
    e ∙ version_refused c.args.payload.now (c.from-length.ensures ∙ c.u8_at.ensures) c.block.ensures c.in_err-block.was

pub returns : goal.returns
returns c =
    version_read c.args.payload.now (c.from-length.ensures ∙ c.u8_at.ensures) c.block.ensures c.in_ok-block.was
    c.u32_at.ensures (c.from.ensures ∙ c.u32_at-2.ensures) c.u64_at.ensures c.address_at.ensures c.u64_at-2.ensures c.u32_at-3.ensures c.u8_at-2.ensures
