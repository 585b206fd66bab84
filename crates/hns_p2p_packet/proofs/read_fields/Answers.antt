-- `read_fields` meets its contract where a packet has no fields, or all bytes are one.
use mathlib.Core.Path.{refl}
use Rattle.hns_p2p_types.specs.declared.Packet.TheVariants as P
use Rattle.hns_p2p_types.specs.Types.{type_number}
use Rattle.hns_p2p_types.specs.Packets.{row, rows, fields_of}
use Rattle.hns_p2p_packet.proofs.Fields.{at_type, empty_fields, raw_fields}
use Rattle.hns_p2p_packet.proofs.read_fields.Goals as goal

pub returns-in-Verack : goal.returns-in-Verack
unfolding fields_of row rows type_number
returns-in-Verack c = at_type _ _ c.from.ensures c.in-Verack.is refl (empty_fields P.Verack _ c.close.ensures)

pub returns-in-GetAddr : goal.returns-in-GetAddr
unfolding fields_of row rows type_number
returns-in-GetAddr c = at_type _ _ c.from.ensures c.in-GetAddr.is refl (empty_fields P.GetAddr _ c.close-in-GetAddr.ensures)

pub returns-in-SendHeaders : goal.returns-in-SendHeaders
unfolding fields_of row rows type_number
returns-in-SendHeaders c = at_type _ _ c.from.ensures c.in-SendHeaders.is refl (empty_fields P.SendHeaders _ c.close-in-SendHeaders.ensures)

pub returns-in-Mempool : goal.returns-in-Mempool
unfolding fields_of row rows type_number
returns-in-Mempool c = at_type _ _ c.from.ensures c.in-Mempool.is refl (empty_fields P.Mempool _ c.close-in-Mempool.ensures)

pub returns-in-FilterClear : goal.returns-in-FilterClear
unfolding fields_of row rows type_number
returns-in-FilterClear c = at_type _ _ c.from.ensures c.in-FilterClear.is refl (empty_fields P.FilterClear _ c.close-in-FilterClear.ensures)

pub returns-in-Block : goal.returns-in-Block
unfolding fields_of row rows type_number
returns-in-Block c = at_type _ _ c.from.ensures c.in-Block.is refl (raw_fields P.Block _)

pub returns-in-Tx : goal.returns-in-Tx
unfolding fields_of row rows type_number
returns-in-Tx c = at_type _ _ c.from.ensures c.in-Tx.is refl (raw_fields P.Tx _)

pub returns-in-FilterLoad : goal.returns-in-FilterLoad
unfolding fields_of row rows type_number
returns-in-FilterLoad c = at_type _ _ c.from.ensures c.in-FilterLoad.is refl (raw_fields P.FilterLoad _)

pub returns-in-FilterAdd : goal.returns-in-FilterAdd
unfolding fields_of row rows type_number
returns-in-FilterAdd c = at_type _ _ c.from.ensures c.in-FilterAdd.is refl (raw_fields P.FilterAdd _)

pub returns-in-MerkleBlock : goal.returns-in-MerkleBlock
unfolding fields_of row rows type_number
returns-in-MerkleBlock c = at_type _ _ c.from.ensures c.in-MerkleBlock.is refl (raw_fields P.MerkleBlock _)

pub returns-in-CmpctBlock : goal.returns-in-CmpctBlock
unfolding fields_of row rows type_number
returns-in-CmpctBlock c = at_type _ _ c.from.ensures c.in-CmpctBlock.is refl (raw_fields P.CmpctBlock _)

pub returns-in-BlockTxn : goal.returns-in-BlockTxn
unfolding fields_of row rows type_number
returns-in-BlockTxn c = at_type _ _ c.from.ensures c.in-BlockTxn.is refl (raw_fields P.BlockTxn _)

pub returns-in-Proof : goal.returns-in-Proof
unfolding fields_of row rows type_number
returns-in-Proof c = at_type _ _ c.from.ensures c.in-Proof.is refl (raw_fields P.Proof _)

pub returns-in-Claim : goal.returns-in-Claim
unfolding fields_of row rows type_number
returns-in-Claim c = at_type _ _ c.from.ensures c.in-Claim.is refl (raw_fields P.Claim _)

pub returns-in-Airdrop : goal.returns-in-Airdrop
unfolding fields_of row rows type_number
returns-in-Airdrop c = at_type _ _ c.from.ensures c.in-Airdrop.is refl (raw_fields P.Airdrop _)
