-- Where a packet's agent or reason stands in its payload; no other packet has a text.
use Rattle.hns_p2p_types.specs.declared.Packet.{Packet}
use Rattle.hns_p2p_types.specs.declared.Packet.TheVariants as P
use Rattle.hns_p2p_types.specs.declared.Span.{Span}

abbrev pub no_span : Span
no_span = record { start = 0; length = 0 }

unfoldable pub text_span : Packet → Span
text_span (P.Version v) = v.agent
text_span (P.Reject r) = r.reason
text_span P.Verack = no_span
text_span (P.Ping x) = no_span
text_span (P.Pong x) = no_span
text_span P.GetAddr = no_span
text_span (P.Addr x) = no_span
text_span (P.Inv x) = no_span
text_span (P.GetData x) = no_span
text_span (P.NotFound x) = no_span
text_span (P.GetBlocks x) = no_span
text_span (P.GetHeaders x) = no_span
text_span (P.Headers x) = no_span
text_span P.SendHeaders = no_span
text_span (P.Block x) = no_span
text_span (P.Tx x) = no_span
text_span P.Mempool = no_span
text_span (P.FilterLoad x) = no_span
text_span (P.FilterAdd x) = no_span
text_span P.FilterClear = no_span
text_span (P.MerkleBlock x) = no_span
text_span (P.FeeFilter x) = no_span
text_span (P.CmpctBlock x) = no_span
text_span (P.GetBlockTxn x) = no_span
text_span (P.BlockTxn x) = no_span
text_span (P.GetProof x) = no_span
text_span (P.Proof x) = no_span
text_span (P.Claim x) = no_span
text_span (P.Airdrop x) = no_span
text_span (P.SendCmpct mode number) = no_span
text_span (P.Unknown t span) = no_span
