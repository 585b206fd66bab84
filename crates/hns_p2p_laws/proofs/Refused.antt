-- Which refusals reading can give: by the format, field by field. Assumes nothing.
use Prim.Native.Nat.{ℕ, zero, suc, ◌+◌}
use mathlib.Core.Path.{◌≡◌, refl, sym, ap, ◌∙◌, subst}
use mathlib.Core.Bool.{Bool, true, false}
use mathlib.Core.List.{List}
use lib.ListN.{length}
use lib.Dec.{leb, ltb, eqb}
use borrow.Author.Tests.{le-leb, lt-leb}
use Rattle.hns_refusals.specs.declared.Refusal.{Refusal}
use Rattle.std.specs.Prelude.{Result, Ok, Err}
use Rattle.hns_refusals.specs.Limits.{max_indexes, max_index}
use Rattle.hns_refusals.specs.Refusals.{index_count_field, index_field}
use Rattle.hns_encoding.specs.Bytes.{choose, left, Outcome, got, stop, after, bytes_at, le_at, end_at, to_end}
use Rattle.hns_encoding.specs.Compact.{wide_at, compact_from, compact_at, count_at}
use Rattle.hns_encoding.specs.Format.{Format, nothing, num, raw, reserved, host, flag, text, counted, indexes, whole, tagged, ◌▸◌, Value, many, indexes_from, read}
use Rattle.hns_encoding.proofs.Outcomes.{choose_leb}
use Rattle.hns_p2p_types.specs.Packets.{row, layout, texted, Answer, answer_by}
use Rattle.hns_p2p_rights.specs.Terms.{Terms}
use Rattle.hns_p2p_admission.specs.Admission.{admitted}
use Rattle.hns_p2p_admission.specs.Reading.{if_passed, read_under, read_packet_under}
use Rattle.hns_p2p_admission.specs.Claims.{AdmissionIs}
use Rattle.hns_p2p_admission.proofs.Admitted.{conditions}
use Rattle.hns_p2p_laws.specs.Refused.{FieldRefusal, ends, if_not_shortest, left_over, if_over_limit, if_index_over, fields_read, AnswerIs, if_turned_away, refused, text_short, reads, PacketIs}

-- a value, or one of these refusals
data Only {A : Type 0} : Outcome A → Type 0 where
  value : {a : A} {at : ℕ} → Only (got a at)
  refusal : {r : Refusal} → FieldRefusal r → Only (stop r)

then : {A B : Type 0} (o : Outcome A) (k : A → ℕ → Outcome B) → Only o → ((a : A) (at : ℕ) → Only (k a at)) → Only (after o k)
then (got a at) k x y = y a at
then (stop r) k (refusal x) y = refusal x

either : {A : Type 0} (b : Bool) (x y : Outcome A) → Only x → Only y → Only (choose b x y)
either true x y p q = p
either false x y p q = q

why : {A : Type 0} {r : Refusal} → Only {A = A} (stop r) → FieldRefusal r
why (refusal x) = x

-- ---- reads

bytes_only : (n : ℕ) (s : List ℕ) (at : ℕ) → Only (bytes_at n s at)
unfolding bytes_at
bytes_only n s at = either (leb n (left s at)) _ _ value (refusal (ends _ _))

number_only : (n : ℕ) (s : List ℕ) (at : ℕ) → Only (le_at n s at)
unfolding le_at
number_only n s at = then (bytes_at n s at) _ (bytes_only n s at) (λ bs next. value)

end_only : (s : List ℕ) (at : ℕ) → Only (end_at s at)
unfolding end_at
end_only s at = either (eqb (left s at) 0) _ _ value (refusal (left_over _))

to_end_only : {A : Type 0} (item : List ℕ → ℕ → Outcome A) (s : List ℕ) → Only (item s 0) → Only (to_end item s)
unfolding to_end
to_end_only item s x = then (item s 0) _ x (λ v at. then (end_at s at) _ (end_only s at) (λ u last. value))

-- ---- compact sizes

wide_only : (n least : ℕ) (s : List ℕ) (at : ℕ) → Only (wide_at n least s at)
unfolding wide_at
wide_only n least s at = then (le_at n s at) _ (number_only n s at) (λ v next. either (leb least v) _ _ value (refusal (if_not_shortest _)))

compact_only : (s : List ℕ) (at : ℕ) → Only (compact_at s at)
unfolding compact_at compact_from
compact_only s at =
    then (le_at 1 s at) _ (number_only 1 s at) (λ first next.
    either (ltb first 253) _ _ value
    (either (eqb first 253) _ _ (wide_only 2 253 s next)
    (either (eqb first 254) _ _ (wide_only 4 65536 s next) (wide_only 8 4294967296 s next))))

count_only : (limit field : ℕ) (s : List ℕ) (at : ℕ) → Only (count_at limit field s at)
unfolding count_at
count_only limit field s at =
    then (compact_at s at) _ (compact_only s at) (λ n next. either (leb n limit) _ _ value (refusal (if_over_limit _ _ _)))

-- ---- formats

many_only : {A : Type 0} (n : ℕ) (item : List ℕ → ℕ → Outcome A) (s : List ℕ) → ((at : ℕ) → Only (item s at)) → (at : ℕ) → Only (many n item s at)
many_only zero item s x at = value
many_only (suc n) item s x at = then (item s at) _ (x at) (λ a next. then (many n item s next) _ (many_only n item s x next) (λ xs last. value))

indexes_only : (n base : ℕ) (s : List ℕ) (at : ℕ) → Only (indexes_from n base s at)
indexes_only zero base s at = value
indexes_only (suc n) base s at =
    then (count_at max_index index_field s at) _ (count_only _ _ s at) (λ d next. either (leb (base + d) max_index) _ _ (then (indexes_from n (base + d + 1) s next) _ (indexes_only n (base + d + 1) s next) (λ is last. value)) (refusal if_index_over))

read_only : (f : Format) (s : List ℕ) (at : ℕ) → Only (read f s at)
unfolding read
read_only nothing s at = value
read_only (num n) s at = number_only n s at
read_only (raw n) s at = bytes_only n s at
read_only (reserved n) s at = then (bytes_at n s at) _ (bytes_only n s at) (λ bs next. value)
read_only host s at = then (le_at 1 s at) _ (number_only 1 s at) (λ kind next. then (bytes_at 36 s next) _ (bytes_only 36 s next) (λ bs last. value))
read_only flag s at = then (le_at 1 s at) _ (number_only 1 s at) (λ b next. value)
read_only (text field) s at = then (le_at 1 s at) _ (number_only 1 s at) (λ n next. then (bytes_at n s next) _ (bytes_only n s next) (λ bs last. value))
read_only (counted limit field f) s at = then (count_at limit field s at) _ (count_only limit field s at) (λ n next. many_only n (read f) s (read_only f s) next)
read_only indexes s at = then (count_at max_indexes index_count_field s at) _ (count_only _ _ s at) (λ n next. indexes_only n 0 s next)
read_only (whole n f) s at = then (bytes_at n s at) _ (bytes_only n s at) (λ bs next. then (to_end (read f) bs) _ (to_end_only (read f) bs (read_only f bs 0)) (λ v last. value))
read_only (tagged k) s at = then (le_at 1 s at) _ (number_only 1 s at) (λ t next. then (read (k t) s next) _ (read_only (k t) s next) (λ v last. value))
read_only (f ▸ g) s at = then (read f s at) _ (read_only f s at) (λ a next. then (read g s next) _ (read_only g s next) (λ b last. value))

fields_only : (t : ℕ) (s : List ℕ) → Only (fields_read t s)
fields_only t s = to_end_only (read (layout t (length s))) s (read_only (layout t (length s)) s 0)

-- ---- the answer

module _ (u : Terms) (t : ℕ) (s o : List ℕ) where
  abbrev answer : Outcome (Value (layout t (length s))) → Answer
  answer q = answer_by ((row t).packet s) ((row t).text s) q o

  by_fields : AdmissionIs u t (length s) (Ok tt) → (q : Outcome (Value (layout t (length s)))) → fields_read t s ≡ q → AnswerIs u t s o (answer q)
  unfolding texted
  by_fields a (got v last) e = choose_leb (AnswerIs u t s o) (length ((row t).text s v)) (length o) (reads a v last e) (text_short a v last e)
  by_fields a (stop r) e = refused a r e (why (subst (λ (q : Outcome (Value (layout t (length s)))). Only q) e (fields_only t s)))

  by_tests : (a : Result (Unit {0}) Refusal) → AdmissionIs u t (length s) a → AnswerIs u t s o (answer (if_passed a (fields_read t s)))
  by_tests (Ok u) a = by_fields a (fields_read t s) refl
  by_tests (Err r) a = if_turned_away r a

  -- the answer meets its condition
  answer_is : AnswerIs u t s o (read_packet_under u t s o)
  unfolding read_packet_under read_under
  answer_is = by_tests (admitted u t (length s)) ((conditions u t (length s) (admitted u t (length s))).1 refl)

  -- what a test answers, and so what is read
  given_tests : {a : Result (Unit {0}) Refusal} → AdmissionIs u t (length s) a → read_packet_under u t s o ≡ answer (if_passed a (fields_read t s))
  unfolding read_packet_under read_under
  given_tests {a} c = ap (λ (k : Result (Unit {0}) Refusal). answer (if_passed k (fields_read t s))) (sym ((conditions u t (length s) a).0 c))

  -- and no other answer does
  answer_only : {a : Answer} → AnswerIs u t s o a → a ≡ read_packet_under u t s o
  unfolding texted
  answer_only (if_turned_away r c) = sym (given_tests c)
  answer_only (refused c r e k) = sym (given_tests c ∙ rw e)
  answer_only (text_short c v last e h) = sym (given_tests c ∙ rw (e, lt-leb (length ((row t).text s v)) (length o) h))
  answer_only (reads c v last e h) = sym (given_tests c ∙ rw (e, le-leb (length ((row t).text s v)) (length o) h))

pub packet_is : PacketIs
packet_is u t s o a = (answer_only u t s o, λ e. subst (AnswerIs u t s o) (sym e) (answer_is u t s o))
