-- The law of every writer: its plan refuses and the output stays, or the payload is put at the output's front. Assumes nothing.
use Prim.Native.Nat.{ℕ}
use mathlib.Core.Path.{◌≡◌, sym, ◌∙◌}
use mathlib.Core.List.{List}
use lib.ListN.{length}
use Rattle.std.specs.Prelude.{Ok, Err}
use Rattle.hns_refusals.specs.declared.Refusal.{Refusal}
use Rattle.hns_refusals.specs.Refusals.{Answer}
use Rattle.hns_refusals.specs.Checks.{first}
use Rattle.hns_encoding.specs.Put.{splice}
use Rattle.hns_p2p_plans.specs.Tests.{room, planned}
use Rattle.hns_p2p_plans.proofs.Tests.{plan_of_write, plan_of_refused}
use Rattle.hns_p2p_writer.specs.Writing.{exit, settle, writing}

module _ (tests : Answer (Unit {0})) (x o : List ℕ) {n : ℕ} {plan : Answer ℕ} (e : plan ≡ planned tests n (length o)) where
  pub refused : {r : Refusal} → plan ≡ Err r → n ≡ length x → exit (Err r) o ≡ writing tests x o
  unfolding writing settle planned
  refused {r} q size =
      let k : first tests (room (length x) (length o)) ≡ Err r = rw (← size) (plan_of_refused _ n (sym e ∙ q)) in
      rw k

  pub written : {m : ℕ} → plan ≡ Ok m → {p : ℕ} → p ≡ 0 → {o' : List ℕ} → o' ≡ splice o p x → n ≡ length x → exit (Ok m) o' ≡ writing tests x o
  unfolding writing settle planned
  written q z put size =
      let w = plan_of_write _ n (sym e ∙ q) in
      let k : first tests (room (length x) (length o)) ≡ Ok tt = rw (← size) w.0 in
      rw (k, put, z, w.1, size)
