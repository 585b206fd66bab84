-- The cases of the exact frame, and which refusals fronts, exact frames and the writer can give. Assumes nothing.
use Prim.Native.Nat.{ℕ, ◌+◌, ◌-◌, ◌≤◌, ◌<◌}
use mathlib.Core.Path.{◌≡◌, refl}
use mathlib.Core.List.{List}
use mathlib.Core.Logic.{◌⊎◌, inl, inr}
use native.Mathlib.Omega.{arith}
use lib.ListN.{length}
use lib.Dec.{eqb}
use borrow.Author.Tests.{le-leb, lt-leb, eqb-true, eqb-false, eq-eqb, ne_eqb}
use Rattle.hns_refusals.specs.declared.Refusal.{Refusal}
use Rattle.std.specs.Prelude.{Err}
use Rattle.hns_refusals.specs.Refusals.{number, payload_too_large, output_short}
use Rattle.hns_refusals.specs.Limits.{header_size}
use Rattle.hns_encoding.specs.Bytes.{Outcome, stop}
use Rattle.hns_encoding.proofs.Outcomes.{choose_holds}
use Rattle.hns_p2p_frame.specs.declared.NetworkMagic.{NetworkMagic}
use Rattle.hns_p2p_frame.specs.Frame.{Frame, Front, whole, bad, payload_length, missing, exactly, decode_exact, Written}
use Rattle.hns_p2p_frame.specs.Conditions as W
use Rattle.hns_p2p_frame.specs.Conditions.{FrontIs, few, wrong, long, begun, full, ExactIs, header_bad, header_missing, payload_missing, bytes_after, one_frame, ExactExactly, WriterIs, RefusalsAre}
use Rattle.hns_p2p_frame.proofs.Fronts.{seen, front_is}
use Rattle.hns_p2p_frame.proofs.Writes.{writes}

module _ (net : NetworkMagic) (xs : List ℕ) where
  missing_header : length xs < header_size → missing xs ≡ header_size - length xs
  unfolding missing
  missing_header a = rw (lt-leb header_size (length xs) a)

  missing_payload : header_size ≤ length xs → missing xs ≡ header_size + payload_length xs - length xs
  unfolding missing
  missing_payload a = rw (le-leb header_size (length xs) a)

  followed : {f : Frame} {rest : List ℕ} → FrontIs net xs (whole f rest) → ExactIs net xs (exactly xs (whole f rest))
  unfolding exactly
  followed {f} {rest} w =
      choose_holds (ExactIs net xs) (eqb (length rest) 0)
      (λ e. one_frame w (eqb-true (length rest) 0 e))
      (λ e. let some : 0 < length rest = omega (arith, eqb-false (length rest) 0 e) in bytes_after w some)

  pub exact_seen : ExactIs net xs (decode_exact net xs)
  unfolding decode_exact exactly
  exact_seen = go (seen net xs)
    where
      go : {g : Front} → FrontIs net xs g → ExactIs net xs (exactly xs g)
      go (few a) = rw (missing_header a) (header_missing a)
      go (begun a b c d) = rw (missing_payload a) (payload_missing a (begun a b c d))
      go (wrong a b) = header_bad (wrong a b)
      go (long a b c) = header_bad (long a b c)
      go (full a b c d) = followed (full a b c d)

  -- the other way: a case's facts say which it is
  exact_is : {a : Outcome Frame} → ExactIs net xs a → decode_exact net xs ≡ a
  unfolding decode_exact exactly
  exact_is (header_bad w) = rw (front_is w)
  exact_is (header_missing a) = rw (front_is {net = net} {xs = xs} (few a), missing_header a)
  exact_is (payload_missing a w) = rw (front_is w, missing_payload a)
  exact_is (bytes_after {rest = rest} w some) = rw (front_is w, ne_eqb (length rest) 0 (λ e. omega arith))
  exact_is (one_frame {rest = rest} w none) = rw (front_is w, eq-eqb (length rest) 0 none)

pub exact_exactly : ExactExactly
exact_exactly net xs a = (λ e. rw e at (exact_seen net xs), exact_is net xs)

-- ---- which refusals

front_refuses : {net : NetworkMagic} {xs : List ℕ} {r : Refusal} → FrontIs net xs (bad r) → (number r ≡ 4) ⊎ (number r ≡ 5)
front_refuses (wrong a b) = inl refl
front_refuses (long a b c) = inr refl

exact_refuses : {net : NetworkMagic} {xs : List ℕ} {r : Refusal} → ExactIs net xs (stop r) → (number r ≡ 3) ⊎ (number r ≡ 4) ⊎ (number r ≡ 5) ⊎ (number r ≡ 8)
exact_refuses (header_bad (wrong a b)) = inr (inl refl)
exact_refuses (header_bad (long a b c)) = inr (inr (inl refl))
exact_refuses (header_missing a) = inr (inr (inr refl))
exact_refuses (payload_missing a w) = inr (inr (inr refl))
exact_refuses (bytes_after w some) = inl refl

writer_refuses : {net : NetworkMagic} {f : Frame} {o : List ℕ} {w : Written} (r : Refusal) → WriterIs net f o w → w.answer ≡ Err r → ((number r ≡ 5) ⊎ (number r ≡ 16)) × (w.output ≡ o)
writer_refuses {f = f} r (W.over a) e = let same : r ≡ payload_too_large (length f.payload) = cc in (rw same (inl refl), refl)
writer_refuses {f = f} r (W.short a b) e = let same : r ≡ output_short (header_size + length f.payload) = cc in (rw same (inr refl), refl)
writer_refuses r (W.fits a b) e = absurd (cc)

pub refusals_are : (net : NetworkMagic) → RefusalsAre net
refusals_are net =
    record {
      of_front = λ xs r e. front_refuses (rw e at (seen net xs));
      of_exact = λ xs r e. exact_refuses (rw e at (exact_seen net xs));
      of_writer = λ f o r e. writer_refuses r (writes net f o) e;
    }
