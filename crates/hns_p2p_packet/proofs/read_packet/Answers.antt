-- `read_packet` meets its contract: by whether the output has room for the packet's text.
use Rattle.std.proofs.Common.{arith}
use Rattle.hns_p2p_packet.proofs.Texts.{text_inside, short_packet, short_text, fits_packet, fits_text}
use Rattle.hns_p2p_packet.proofs.read_packet.Goals as goal

pub returns-then-text-needed-clause-value : goal.returns-then-text-needed-clause-value
returns-then-text-needed-clause-value c = short_packet _ _ _ c.read_payload.ensures c.in_ok-packet.was c.text_span-span.ensures _ c.if-text-needed.true

pub returns-then-text-needed-clause-text_after : goal.returns-then-text-needed-clause-text_after
returns-then-text-needed-clause-text_after c = short_text _ _ _ c.read_payload.ensures c.in_ok-packet.was c.text_span-span.ensures _ c.if-text-needed.true

pub overflow_add-span : goal.overflow_add-span
overflow_add-span c = omega (arith, text_inside _ _ _ c.read_payload.ensures c.in_ok-packet.was c.text_span-span.ensures)

pub slice_bounds-put_text-end : goal.slice_bounds-put_text-end
slice_bounds-put_text-end c = text_inside _ _ _ c.read_payload.ensures c.in_ok-packet.was c.text_span-span.ensures

pub returns-clause-value : goal.returns-clause-value
returns-clause-value c = fits_packet _ _ _ c.read_payload.ensures c.in_ok-packet.was c.text_span-span.ensures _ c.if-text-needed.false

pub returns-clause-text_after : goal.returns-clause-text_after
returns-clause-text_after c = fits_text _ _ _ c.read_payload.ensures c.in_ok-packet.was c.text_span-span.ensures _ c.if-text-needed.false (omega arith) c.put_text.ensures
