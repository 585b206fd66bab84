-- Wrong calls, each refuted by one payload or one mask. Assumes nothing.
use Prim.Native.Nat.{ℕ, zero, suc, ◌%◌, ◌^◌, ◌<◌}
use mathlib.Core.Path.{◌≡◌, refl, sym, ap, ◌∙◌}
use mathlib.Core.List.{List, [], ◌∷◌}
use mathlib.Core.Bool.{true, false}
use native.Mathlib.Omega.{arith}
use lib.ListN.{length, get_or, replicate, length-replicate, get_or-replicate}
use lib.Count.{ones, ones_cat}
use Rattle.hns_refusals.specs.declared.Refusal.{Refusal}
use Rattle.std.specs.Prelude.{Result, Ok, Err}
use Rattle.hns_refusals.specs.Limits.{max_payload}
use Rattle.hns_refusals.specs.Refusals.{number, no_role, not_granted, payload_too_large}
use Rattle.hns_encoding.specs.Bytes.{end_at, to_end}
use Rattle.hns_encoding.specs.Format.{read}
use Rattle.hns_p2p_types.specs.declared.Packet.{Packet}
use Rattle.hns_p2p_types.specs.declared.Packet.TheVariants as P
use Rattle.hns_p2p_types.specs.Protocol.{read_by}
use Rattle.hns_p2p_types.specs.Packets.{row, rows, texted, Answer, read_packet}
use Rattle.hns_p2p_rights.specs.Terms.{Terms, full_mask, Full}
use Rattle.hns_p2p_rights.specs.Rights.{bit, bit_of, granted}
use Rattle.hns_p2p_rights.specs.Claims.{if_no_role, if_not_granted, types}
use Rattle.hns_p2p_rights.proofs.Conditions.{count_only}
use Rattle.hns_p2p_admission.specs.Claims.{AdmissionIs, not_sent}
use Rattle.hns_p2p_admission.proofs.Admitted.{conditions}
use Rattle.hns_p2p_calls.specs.Calls.{Calls}
use Rattle.hns_p2p_calls.specs.Trials.{Reader, ReadsUnder, OtherMask, OtherGrants, TrialsFail}
use Rattle.hns_p2p_calls.proofs.Calls.{calls}

abbrev packet : Answer → Result Packet Refusal
packet a = a.packet

-- terms of role 0 and one mask
abbrev only : ℕ → Terms
only mask = record { role = 0; masks = mask ∷ [] }

module _ (reader : Reader) (is : ReadsUnder reader) (u : Terms) (t : ℕ) (s : List ℕ) where
  away : {r : Refusal} → AdmissionIs u t (length s) (Err r) → (reader u t s []).packet ≡ Err r
  away {r} c = ap packet (is u t s [] ∙ ap (λ (k : Calls t). k.packet_read []) (calls.away u t s r (sym ((conditions u t (length s) (Err r)).0 c))))

  plain : Full u → reader u t s [] ≡ read_packet t s []
  plain f = is u t s [] ∙ ap (λ (k : Calls t). k.packet_read []) (calls.full u f t s)

-- two refusals that differ, by their numbers
apart : {p : Result Packet Refusal} (a b : Refusal) → p ≡ Err a → p ≡ Err b → (number a ≡ number b → ⊥) → ⊥
apart a b x y d = let e : a ≡ b = cc in d (ap number e)

-- a payload of as many zeros, which is never written out
zeros : ℕ → List ℕ
zeros n = replicate n 0

zeros_length : (n : ℕ) → length (zeros n) ≡ n
unfolding zeros
zeros_length n = length-replicate {A = ℕ} n 0

-- a verack
verack : (read_packet 1 [] []).packet ≡ Ok P.Verack
unfolding read_packet row rows read_by read texted end_at to_end
verack = refl

verack_stands : {p : Result Packet Refusal} (r : Refusal) → p ≡ Err r → p ≡ Ok P.Verack → ⊥
verack_stands r x y = let z : ◌≡◌ {A = ℕ} 0 1 = cc in absurd (omega arith)

-- a role other than k, and a mask of its own that grants what the mask of k does not
full_one : Full (only full_mask)
full_one = record { a_role = omega arith; all = refl }

abbrev second : Terms
second = record { role = 1; masks = 0 ∷ full_mask ∷ [] }

full_two : Full second
full_two = record { a_role = omega arith; all = refl }

nothing_granted : granted 0 1 ≡ false
unfolding granted bit bit_of
nothing_granted = refl

other : (k : ℕ) (reader : Reader) → OtherMask k reader → ReadsUnder reader → ⊥
other zero reader wrong is = verack_stands not_granted (wrong second 1 [] [] (omega arith) nothing_granted) (ap packet (plain reader is second 1 [] full_two) ∙ verack)
other (suc k) reader wrong is = verack_stands not_granted (wrong (only full_mask) 1 [] [] (omega arith) nothing_granted) (ap packet (plain reader is (only full_mask) 1 [] full_one) ∙ verack)

-- a role other than k whose own mask is zero, and a mask of k that grants all
abbrev lacking : ℕ → Terms
lacking zero = record { role = 1; masks = full_mask ∷ 0 ∷ [] }
lacking (suc k) = record { role = 0; masks = 0 ∷ replicate (suc k) full_mask }

all_granted : granted full_mask 1 ≡ true
unfolding granted bit bit_of
all_granted = refl

grants : (k : ℕ) (reader : Reader) → OtherGrants k reader → ReadsUnder reader → ⊥
grants zero reader wrong is =
    verack_stands not_granted (away reader is (lacking zero) 1 [] (not_sent (if_not_granted (omega arith) nothing_granted))) (ap packet (wrong (lacking zero) 1 [] [] (omega arith) all_granted (omega arith)) ∙ verack)
grants (suc k) reader wrong is =
    let u = lacking (suc k) in
    let g : granted (get_or (replicate (suc k) full_mask) k 0) 1 ≡ true = ap (λ (m : ℕ). granted m 1) (get_or-replicate (suc k) k full_mask 0 (omega arith)) ∙ all_granted in
    verack_stands not_granted (away reader is u 1 [] (not_sent (if_not_granted (omega arith) nothing_granted))) (ap packet (wrong u 1 [] [] (omega arith) g (omega arith)) ∙ verack)

-- bit 30 alone, and a known type
thirty : bit (2 ^ 30) 30 ≡ true
unfolding bit
thirty = refl

not_one : granted (2 ^ 30) 1 ≡ false
unfolding granted bit bit_of
not_one = refl

-- bit 31 alone
top_one : ones (2 ^ 31) ≡ 1
unfolding ones
top_one = ones_cat 31 1 0 (omega arith)

top_none : ones (2 ^ 31 % 2 ^ 31) ≡ 0
unfolding ones
top_none = refl

pub trials_fail : TrialsFail
trials_fail =
    record {
      length_first = λ reader wrong is.
          let u : Terms = record { role = 8; masks = [] } in
          let s = zeros 8000001 in
          let long : max_payload < length s = omega (arith, zeros_length 8000001) in
          apart no_role (payload_too_large (length s)) (away reader is u 0 s (not_sent (if_no_role (omega arith)))) (wrong u 0 s [] long) (λ e. omega arith);
      other_mask = other;
      other_grants = grants;
      bit_30_for_all = λ reader wrong is.
          verack_stands not_granted (away reader is (only (2 ^ 30)) 1 [] (not_sent (if_not_granted (omega arith) not_one))) (ap packet (wrong (only (2 ^ 30)) 1 [] [] (omega arith) thirty (omega arith)) ∙ verack);
      counts_bit_31 = λ count wrong is.
          let u = only (2 ^ 31) in
          let one : count u ≡ Ok 1 = wrong u (omega arith) (omega arith) ∙ ap (λ (n : ℕ). Ok n) top_one in
          let none : count u ≡ Ok 0 = is u ∙ (sym (count_only {u = u} (types (omega arith))) ∙ ap (λ (n : ℕ). Ok n) top_none) in
          let z : ◌≡◌ {A = ℕ} 0 1 = cc in
          absurd (omega arith);
    }
