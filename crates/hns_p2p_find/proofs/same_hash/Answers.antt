use Prim.Native.Nat.{◌+◌, ◌-◌}
use native.Mathlib.Omega.{arith}
use Rattle.hns_p2p_find.proofs.Finding.{same_bytes}
use Rattle.hns_p2p_find.proofs.same_hash.Goals as goal

pub returns-then-u64_at : goal.returns-then-u64_at
returns-then-u64_at c = same_bytes c.args.payload.now c.args.at c.args.hash (omega arith) {n = c.args.at + 32 - c.args.at} (omega arith) c.array_at.ensures c.eq.ensures
