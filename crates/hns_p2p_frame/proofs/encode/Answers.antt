-- `encode` meets its contract: the header and then the payload are one put of the encoding, which fits.
use Prim.Native.Nat.{◌^◌, ◌<◌}
use native.Mathlib.Omega.{arith}
use lib.ListN.{length}
use Rattle.hns_encoding.proofs.Puts.{from_start}
use Rattle.hns_p2p_frame.specs.Frame.{Frame}
use Rattle.hns_p2p_frame.proofs.Writes.{fits_is, framed}
use Rattle.hns_p2p_frame.proofs.encode.Goals as goal

pub returns-clause-out_after : goal.returns-clause-out_after
returns-clause-out_after c =
    let z = c.args in
    -- the output's length is a usize
    let room : length z.out.now < 2 ^ 64 = omega arith in
    let f : Frame = record { packet_type = z.packet_type; payload = z.payload.now } in
    let run = framed z.network f z.out.now _ _ 0 _ _ room (from_start c.new.ensures c.put_frame_header.ensures) c.put_bytes.ensures in
    rw (fits_is z.network f z.out.now (omega arith) (omega arith)) run.bytes
