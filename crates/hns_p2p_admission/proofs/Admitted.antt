-- The tests by their conditions, and the readings that they let through. Assumes nothing.
use Prim.Native.Nat.{ℕ, ◌≤◌}
use mathlib.Core.Path.{◌≡◌, refl, sym, subst}
use mathlib.Core.List.{List}
use mathlib.Core.Bool.{Bool, true, false}
use lib.ListN.{length}
use lib.Dec.{leb}
use borrow.Author.Tests.{le-leb, lt-leb}
use Rattle.std.specs.Prelude.{Ok, Err}
use Rattle.hns_refusals.specs.Checks.{first}
use Rattle.hns_refusals.specs.Limits.{max_payload}
use Rattle.hns_refusals.specs.Refusals.{Answer, payload_too_large}
use Rattle.hns_encoding.specs.Bytes.{choose, Outcome, got, stop, to_end}
use Rattle.hns_encoding.specs.Format.{Value, read}
use Rattle.hns_encoding.proofs.Outcomes.{choose_leb}
use Rattle.hns_p2p_types.specs.Protocol.{read_by}
use Rattle.hns_p2p_types.specs.Packets.{layout}
use Rattle.hns_p2p_rights.specs.Terms.{Terms, Full}
use Rattle.hns_p2p_rights.specs.Rights.{may_send}
use Rattle.hns_p2p_rights.specs.Claims.{SendingIs, if_may_send, Alike, granting}
use Rattle.hns_p2p_rights.proofs.Masks.{alike, still_granted, full}
use Rattle.hns_p2p_rights.proofs.Conditions.{sending_is, sending_only}
use Rattle.hns_p2p_admission.specs.Admission.{not_too_large, admitted}
use Rattle.hns_p2p_admission.specs.Reading.{if_passed, read_under}
use Rattle.hns_p2p_admission.specs.Claims.{AdmissionIs, not_sent, too_large, admits, Conditions, Readings}

-- ---- the conditions

admission_is : (u : Terms) (t n : ℕ) → AdmissionIs u t n (admitted u t n)
unfolding admitted first not_too_large
admission_is u t n = go (may_send u t) (sending_is u t)
  where
    go : (a : Answer (Unit {0})) → SendingIs u t a → AdmissionIs u t n (first a (not_too_large n))
    go (Ok tt) (if_may_send m) = choose_leb (AdmissionIs u t n) n max_payload (admits m) (too_large m)
    go (Err r) s = not_sent s

admission_only : {u : Terms} {t n : ℕ} {a : Answer (Unit {0})} → AdmissionIs u t n a → a ≡ admitted u t n
unfolding admitted first not_too_large
admission_only (not_sent s) = rw (← sending_only s)
admission_only {n = n} (too_large m h) = rw (← sending_only (if_may_send m), lt-leb n max_payload h)
admission_only {n = n} (admits m h) = rw (← sending_only (if_may_send m), le-leb n max_payload h)

pub conditions : Conditions
conditions u t n a = (admission_only, λ e. subst (AdmissionIs u t n) (sym e) (admission_is u t n))

passed_small : {u : Terms} {t n : ℕ} → AdmissionIs u t n (Ok tt) → n ≤ max_payload
passed_small (admits m h) = h

small : (u : Terms) (t n : ℕ) → admitted u t n ≡ Ok tt → n ≤ max_payload
small u t n e = passed_small ((conditions u t n (Ok tt)).1 (sym e))

pub alike_admitted : (u u' : Terms) → Alike u u' → (t n : ℕ) → admitted u t n ≡ admitted u' t n
unfolding admitted
alike_admitted u u' a t n = rw ((alike u u' a).sending t)

-- bits that are granted turn no payload away
pub still_admitted : (u : Terms) (role bits t n : ℕ) → admitted u t n ≡ Ok tt → admitted (granting u role bits) t n ≡ Ok tt
unfolding admitted first not_too_large
still_admitted u role bits t n e = go ((conditions u t n (Ok tt)).1 (sym e))
  where
    go : AdmissionIs u t n (Ok tt) → admitted (granting u role bits) t n ≡ Ok tt
    go (admits m h) = rw (still_granted u t role bits (sym (sending_only (if_may_send m))), le-leb n max_payload h)

-- ---- readings

-- what reads under terms was admitted, is no longer than a payload may be, and its fields read to its end
pub record Reads (u : Terms) (t : ℕ) (s : List ℕ) (v : Value (layout t (length s))) (last : ℕ) : Type 0 where
  pub admits : admitted u t (length s) ≡ Ok tt
  pub small : length s ≤ max_payload
  pub whole : to_end (read (layout t (length s))) s ≡ got v last

if_got : {X : Type 0} (a : Answer (Unit {0})) (o : Outcome X) {v : X} {last : ℕ} → if_passed a o ≡ got v last → (a ≡ Ok tt) × (o ≡ got v last)
if_got (Ok tt) o e = (refl, e)
if_got (Err r) o e = cc

pub under_got : (u : Terms) (t : ℕ) (s : List ℕ) {v : Value (layout t (length s))} {last : ℕ} → read_under u t s ≡ got v last → Reads u t s v last
unfolding read_under
under_got u t s e =
    let g = if_got (admitted u t (length s)) _ e in
    record { admits = g.0; small = small u t (length s) g.0; whole = g.1 }

admitted_reads : (u : Terms) (t : ℕ) (s : List ℕ) → admitted u t (length s) ≡ Ok tt → read_under u t s ≡ read_by (layout t) s
unfolding read_under read_by
admitted_reads u t s a = rw (a, le-leb (length s) max_payload (small u t (length s) a))

-- 5 is the one test that is left
plain : (u : Terms) → Full u → (t : ℕ) (s : List ℕ) → read_under u t s ≡ read_by (layout t) s
unfolding read_under read_by admitted first not_too_large
plain u f t s = rw (full.sending u f t) (go (leb (length s) max_payload))
  where
    go : (b : Bool) → if_passed (choose b (Ok tt) (Err (payload_too_large (length s)))) (to_end (read (layout t (length s))) s) ≡ choose b (to_end (read (layout t (length s))) s) (stop (payload_too_large (length s)))
    go true = refl
    go false = refl

alike_reads : (u u' : Terms) → Alike u u' → (t : ℕ) (s : List ℕ) → read_under u t s ≡ read_under u' t s
unfolding read_under
alike_reads u u' a t s = rw (alike_admitted u u' a t (length s))

pub readings : Readings
unfolding read_under
readings =
    record {
      passed = admitted_reads;
      away = λ u t s r a. rw a;
      full = plain;
      alike = alike_reads;
      granted_more = λ u role bits t s a. rw (still_admitted u role bits t (length s) a, a);
    }
