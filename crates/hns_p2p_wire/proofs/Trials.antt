-- Wrong rewriters are refuted, each by one payload. Assumes nothing.
use Prim.Native.Nat.{ℕ, ◌≤◌}
use mathlib.Core.Path.{◌≡◌, refl, ap}
use mathlib.Core.List.{List, [], ◌∷◌, ◌++◌}
use native.Mathlib.Omega.{arith}
use lib.ListN.{length, get_or, replicate}
use Rattle.hns_encoding.specs.Bytes.{le, Bytes, none, byte, bytes_at, le_at, end_at, to_end}
use Rattle.hns_encoding.specs.Format.{read, Value}
use Rattle.hns_encoding.specs.Marks.{marks}
use Rattle.hns_encoding.specs.Put.{splice}
use Rattle.hns_encoding.proofs.Numbers.{bytes_append, bytes_zeros}
use Rattle.hns_p2p_types.specs.Protocol.{read_by}
use Rattle.hns_p2p_types.specs.Packets.{rows, row, layout}
use Rattle.hns_p2p_wire.specs.Demand3.{Again, Rewrites, Rewriter}
use Rattle.hns_p2p_wire.specs.Trials.{leaves_reserved, skips_reserved, copies, drops_last, drops_last_answers_all, writes_past_end, refuses_all, TrialsFail}

-- a version payload whose first reserved word is not zero
abbrev payload : List ℕ
payload = replicate 8 0 ++ (1 ∷ (replicate 113 0 ++ []))

payload_bytes : Bytes payload
payload_bytes = bytes_append (bytes_zeros 8) (byte {b = 1} (omega arith) (bytes_append (bytes_zeros 113) none))

-- a byte of a raw payload
abbrev single : List ℕ
single = 1 ∷ []

module _ (by : Rewriter) (h : Rewrites by) where
  of_payload : (o : List ℕ) → length payload ≤ length o → (v : Value (layout 0 (length payload))) × Again (layout 0) payload v o (by 0 payload v o)
  unfolding le bytes_at le_at end_at to_end read read_by rows row
  of_payload o k = (_, h 0 payload payload_bytes _ _ refl o k)

  of_single : (o : List ℕ) → 1 ≤ length o → (v : Value (layout 13 1)) × Again (layout 13) single v o (by 13 single v o)
  unfolding le bytes_at le_at end_at to_end read read_by rows row
  of_single o k = (_, h 13 single (byte {b = 1} (omega arith) none) _ _ refl o k)

pub trials_fail : TrialsFail
unfolding marks rows row splice
trials_fail =
    record {
      not_leaves_reserved = λ h. let z : ◌≡◌ {A = ℕ} 1 0 = ap (λ (l : List ℕ). get_or l 8 0) (of_payload leaves_reserved h (replicate 122 0) (omega arith)).1.output in absurd (omega arith);
      not_skips_reserved = λ h. let z : ◌≡◌ {A = ℕ} 1 0 = ap (λ (l : List ℕ). get_or l 8 0) (of_payload skips_reserved h (replicate 122 1) (omega arith)).1.output in absurd (omega arith);
      copies_all = λ h. let z : ◌≡◌ {A = ℕ} 1 0 = ap (λ (l : List ℕ). get_or l 8 0) (of_payload copies h (replicate 122 0) (omega arith)).1.output in absurd (omega arith);
      not_drops_last = λ h. let e = (of_single drops_last h (0 ∷ []) (omega arith)).1.answer in cc;
      not_drops_last_answers_all = λ h. let z : ◌≡◌ {A = ℕ} 0 1 = ap (λ (l : List ℕ). get_or l 0 0) (of_single drops_last_answers_all h (0 ∷ []) (omega arith)).1.output in absurd (omega arith);
      not_writes_past_end = λ h. let z : ◌≡◌ {A = ℕ} 0 1 = ap (λ (l : List ℕ). get_or l 1 0) (of_single writes_past_end h (1 ∷ 1 ∷ []) (omega arith)).1.output in absurd (omega arith);
      not_refuses_all = λ h. let e = (of_single refuses_all h (0 ∷ []) (omega arith)).1.answer in cc;
    }
