use mathlib.Core.Path.{ap}
use native.Mathlib.Omega.{arith}
use lib.ListN.{length, length-take}
use Rattle.hns_encoding.proofs.Puts.{◌⨟◌}
use Rattle.hns_p2p_block_puts.proofs.put_text.Goals as goal

pub overflow_cast-text : goal.overflow_cast-text
overflow_cast-text c = omega (arith, ap length c.first-text.ensures, length-take 255 c.args.text.now)

pub returns : goal.returns
returns c =
    rw (← c.first-text.ensures) ((c.put_u8-e.ensures ⨟ (λ h. c.put_bytes.ensures)) (omega arith))
