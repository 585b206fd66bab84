-- The cases of a writer, and the plans' lengths. Assumes nothing.
use Prim.Native.Nat.{ℕ}
use mathlib.Core.Path.{◌≡◌, refl}
use mathlib.Core.List.{List}
use lib.ListN.{length}
use borrow.Author.Tests.{le-leb, lt-leb}
use Rattle.hns_refusals.specs.Limits.{max_payload}
use Rattle.hns_encoding.proofs.Outcomes.{choose_leb}
use Rattle.hns_p2p_frame.specs.Frame.{Written}
use Rattle.std.specs.Prelude.{Ok, Err}
use Rattle.hns_refusals.specs.Refusals.{Answer}
use Rattle.hns_refusals.specs.Checks.{first}
use Rattle.hns_p2p_plans.specs.Tests.{room}
use Rattle.hns_p2p_writer.specs.Writing.{settle, writing}
use Rattle.hns_p2p_writer.specs.Conditions as W
use Rattle.hns_p2p_writer.specs.Conditions.{WritingIs, WritingExactly, PlanLengths}
use Rattle.hns_p2p_writer.proofs.Lengths.{length_addr, length_inventory, length_headers, length_locator, length_indexes, length_version, length_reject}

-- by what the tests answer
by_tests : (tests k : Answer (Unit {0})) (x o : List ℕ) → tests ≡ k → WritingIs tests x o (writing k x o)
unfolding writing settle first room
by_tests tests (Ok u) x o e =
    choose_leb (λ (c : Answer (Unit {0})). WritingIs tests x o (settle c x o)) (length x) max_payload
    (λ a. choose_leb (λ (c : Answer (Unit {0})). WritingIs tests x o (settle c x o)) (length x) (length o) (λ b. W.fits e a b) (λ b. W.short e a b))
    (λ a. W.large e a)
by_tests tests (Err r) x o e = W.own e

writing_is : {tests : Answer (Unit {0})} {x o : List ℕ} {w : Written} → WritingIs tests x o w → writing tests x o ≡ w
unfolding writing settle first room
writing_is (W.own e) = rw e
writing_is {x = x} (W.large e a) = rw (e, lt-leb (length x) max_payload a)
writing_is {x = x} {o} (W.short e a b) = rw (e, le-leb (length x) max_payload a, lt-leb (length x) (length o) b)
writing_is {x = x} {o} (W.fits e a b) = rw (e, le-leb (length x) max_payload a, le-leb (length x) (length o) b)

pub writing_exactly : WritingExactly
writing_exactly tests x o w = (λ e. rw e at (by_tests tests tests x o refl), writing_is)

pub plan_lengths : PlanLengths
plan_lengths =
    record {
      addr = length_addr;
      inventory_items = length_inventory;
      headers_whole = length_headers;
      hashes = λ s stop bs h. length_locator s bs stop h;
      indexes = length_indexes;
      agent = length_version;
      reason = length_reject;
    }
