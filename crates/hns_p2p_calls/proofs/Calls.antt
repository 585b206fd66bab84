-- The eight calls go by one reading. Assumes nothing.
use Prim.Native.Nat.{ℕ}
use mathlib.Core.Path.{◌≡◌, sym, ap, ◌∙◌, subst, subst_refl, path_j}
use mathlib.Core.List.{List}
use lib.ListN.{length}
use Rattle.hns_refusals.specs.declared.Refusal.{Refusal}
use Rattle.hns_encoding.specs.Bytes.{Outcome, stop}
use Rattle.hns_encoding.specs.Format.{Value}
use Rattle.hns_p2p_types.specs.Protocol.{read_by}
use Rattle.hns_p2p_types.specs.Packets.{row, rows, layout, answered, packet_of, answer_by, read_packet}
use Rattle.hns_p2p_rights.specs.Terms.{Terms}
use Rattle.hns_p2p_admission.specs.Reading.{read_under, packet_under, read_packet_under}
use Rattle.hns_p2p_rights.proofs.Masks.{alike}
use Rattle.hns_p2p_admission.proofs.Admitted.{alike_admitted, readings}
use Rattle.hns_p2p_items.specs.Items.{listed_by, listed_of, listed_under, item_by, item_of, item_under}
use Rattle.hns_p2p_items.specs.Listings.{list_by, listing_under}
use Rattle.hns_p2p_indexes.specs.Indexes.{Answer, stored_by, stored_of, request_under, stored_under}
use Rattle.hns_p2p_item_numbers.specs.Numbers.{numbers_by, numbers_of, numbers_under}
use Rattle.hns_p2p_wire.specs.Demand3.{from_value, rewritten_by, rewriting, rewriting_under}
use Rattle.hns_p2p_calls.specs.Calls.{Calls, calls_under, calls_of, refusing, CallsGoByTerms}

-- what a payload of type t can read as
abbrev Reading : List ℕ → ℕ → Type 0
Reading s t = Outcome (Value (layout t (length s)))

-- of a reading at type 24, as `indexes` takes it
stored : (s : List ℕ) → Reading s 24 → List ℕ → Answer
unfolding row rows
stored s q = stored_by q

-- all calls by a reading, except for `indexes`
abbrev calls_with : (s : List ℕ) (t : ℕ) → Reading s t → (t ≡ 24 → List ℕ → Answer) → Calls t
calls_with s t q indexes =
    record {
      read_payload = answered ((row t).packet s) q;
      packet_read = answer_by ((row t).packet s) ((row t).text s) q;
      listing = list_by (answered ((row t).packet s) q);
      item = λ k. item_by k (listed_by t s q);
      find = listed_by t s q;
      indexes = indexes;
      item_numbers = numbers_by (listed_by t s q);
      rewrite = rewritten_by (from_value t s) q;
    }

abbrev calls_by : (s : List ℕ) (t : ℕ) → Reading s t → Calls t
calls_by s t q = calls_with s t q (λ e. stored s (subst (Reading s) e q))

-- a reading for each type, at type 24
at_24 : (s : List ℕ) (f : (t : ℕ) → Reading s t) {t : ℕ} (e : t ≡ 24) → subst (Reading s) e (f t) ≡ f 24
at_24 s f {t} e = path_j (λ n p. subst (Reading s) p (f t) ≡ f n) (subst_refl (Reading s) (f t)) e

by_reading : (s : List ℕ) (f : (t : ℕ) → Reading s t) (t : ℕ) → calls_with s t (f t) (λ e. stored s (f 24)) ≡ calls_by s t (f t)
by_reading s f t = ap (calls_with s t (f t)) (sym (λ i e. stored s (at_24 s f e i)))

under_by : (u : Terms) (t : ℕ) (s : List ℕ) → calls_under u t s ≡ calls_by s t (read_under u t s)
unfolding packet_under read_packet_under listing_under item_under listed_under stored_under request_under numbers_under rewriting_under row rows stored
under_by u t s = by_reading s (λ n. read_under u n s) t

of_by : (t : ℕ) (s : List ℕ) → calls_of t s ≡ calls_by s t (read_by (layout t) s)
unfolding packet_of read_packet item_of listed_of stored_of numbers_of rewriting row rows stored
of_by t s = by_reading s (λ n. read_by (layout n) s) t

refusing_by : (r : Refusal) (t : ℕ) (s : List ℕ) → refusing r t ≡ calls_by s t (stop r)
unfolding stored
refusing_by r t s = by_reading s (λ n. stop r) t

pub calls : CallsGoByTerms
calls =
    let same : (u u' : Terms) (t : ℕ) (s : List ℕ) → read_under u t s ≡ read_under u' t s → calls_under u t s ≡ calls_under u' t s = λ u u' t s e. under_by u t s ∙ (ap (calls_by s t) e ∙ sym (under_by u' t s)) in
    let plainly : (u : Terms) (t : ℕ) (s : List ℕ) → read_under u t s ≡ read_by (layout t) s → calls_under u t s ≡ calls_of t s = λ u t s e. under_by u t s ∙ (ap (calls_by s t) e ∙ sym (of_by t s)) in
    record {
      one_reading = same;
      by_own_mask = λ u u' a. record { rights = alike u u' a; admit = alike_admitted u u' a; reading = λ t s. same u u' t s (readings.alike u u' a t s) };
      granted_more = λ u role bits t s a. same _ u t s (readings.granted_more u role bits t s a);
      full = λ u f t s. plainly u t s (readings.full u f t s);
      passed = λ u t s a. plainly u t s (readings.passed u t s a);
      away = λ u t s r a. under_by u t s ∙ (ap (calls_by s t) (readings.away u t s r a) ∙ sym (refusing_by r t s));
    }
