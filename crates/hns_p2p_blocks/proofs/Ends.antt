-- Where the bytes end, width by width, and how answers follow from the tests that the code makes. Assumes nothing.
use Prim.Native.Nat.{ℕ, ◌-◌, ◌≤◌, ◌<◌}
use mathlib.Core.Path.{◌≡◌, refl, ap}
use mathlib.Core.List.{List}
use native.Mathlib.Omega.{arith}
use lib.ListN.{length}
use borrow.Author.Tests.{le-leb, lt-leb}
use Rattle.std.specs.Prelude.{Ok, Err}
use Rattle.hns_refusals.specs.declared.Refusal.{Refusal}
use Rattle.hns_refusals.specs.Refusals.{Answer}
use Rattle.hns_encoding.specs.Bytes.{Outcome, got, stop, left, end_at}
use Rattle.hns_encoding.specs.Format.{sum, short}
use Rattle.hns_encoding.specs.Answers.{finished_of}
use Rattle.hns_p2p_types.specs.declared.Packet.{Packet}
use Rattle.hns_p2p_blocks.specs.Blocks.{gate}
use Rattle.hns_p2p_blocks.specs.Helpers.{block_end, value_of}

-- a test that was passed, and one that was refused
pub passed : (o : Outcome (Unit {0})) {found : Answer (Unit {0})} {u : Unit {0}} → found ≡ finished_of o → found ≡ Ok u → (last : ℕ) × (o ≡ got tt last)
unfolding finished_of
passed (got u last) e g = (last, refl)
passed (stop r) e g = cc

pub refused : (o : Outcome (Unit {0})) {found : Answer (Unit {0})} {r : Refusal} → found ≡ finished_of o → found ≡ Err r → o ≡ stop r
unfolding finished_of
refused (got u last) e g = cc
refused (stop r) e g = cc

pub closed : (o : Outcome (Unit {0})) (packet : Packet) {found : Answer (Unit {0})} {u : Unit {0}} → found ≡ finished_of o → found ≡ Ok u → Ok packet ≡ gate o packet
closed o packet e g = rw (passed o e g).1

pub not_closed : (o : Outcome (Unit {0})) (packet : Packet) {found : Answer (Unit {0})} {r : Refusal} → found ≡ finished_of o → found ≡ Err r → Err r ≡ gate o packet
not_closed o packet e g = rw (refused o e g)

-- and so of a value
module _ {A : Type 0} where
  pub value_got : (o : Outcome A) {found : Answer A} {v : A} → found ≡ value_of o → found ≡ Ok v → (last : ℕ) × (o ≡ got v last)
  value_got (got a last) {v = v} e g = let same : a ≡ v = cc in (last, ap (λ (x : A). got x last) same)
  value_got (stop r) e g = cc

  pub value_stop : (o : Outcome A) {found : Answer A} {r : Refusal} → found ≡ value_of o → found ≡ Err r → o ≡ stop r
  value_stop (got a last) e g = cc
  value_stop (stop r) e g = cc

-- the test of a block
module _ (ws s : List ℕ) {size : ℕ} (is : size ≡ sum ws) where
  pub block_ends : length s < size → {r : Refusal} → r ≡ short ws 0 (left s 0) → Err r ≡ finished_of (block_end ws s)
  unfolding block_end finished_of
  block_ends h q =
      let all : length s - 0 ≡ length s = omega arith in
      rw (lt-leb (sum ws) (length s) (omega arith), q, all)

  pub block_finishes : size ≤ length s → {found : Answer (Unit {0})} → found ≡ finished_of (end_at s size) → found ≡ finished_of (block_end ws s)
  unfolding block_end
  block_finishes h q = rw (le-leb (sum ws) (length s) (omega arith), ← is) q
