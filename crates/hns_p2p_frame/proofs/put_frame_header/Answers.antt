use Prim.Native.Nat.{◌<◌, ◌^◌}
use native.Mathlib.Omega.{arith}
use lib.ListN.{length}
use Rattle.hns_encoding.proofs.Puts.{◌⨟◌}
use Rattle.hns_p2p_frame.proofs.put_frame_header.Goals as goal

pub returns : goal.returns
returns c =
    let lent : length c.args.out.now < 2 ^ 64 = omega arith in
    rw (← c.as_bytes.ensures) ((c.put_array.ensures ⨟ c.put_u8.ensures ⨟ (λ h. c.put_u32_le.ensures)) lent)
