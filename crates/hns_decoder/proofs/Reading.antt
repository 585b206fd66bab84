-- What a read answers and leaves, by the answer of the read on a slice and a place. Assumes nothing.
use Prim.Native.Nat.{ℕ}
use mathlib.Core.Path.{◌≡◌, refl, ap, ◌∙◌}
use mathlib.Core.List.{List}
use denote.Ref.{Bor}
use Rattle.std.specs.Prelude.{Ok, Err}
use Rattle.hns_encoding.specs.declared.Slice.{Slice}
use Rattle.hns_refusals.specs.declared.Refusal.{Refusal}
use Rattle.hns_refusals.specs.Refusals.{Answer}
use Rattle.hns_encoding.specs.Bytes.{Outcome, got, stop, le_at, end_at, to_end}
use Rattle.hns_encoding.specs.Answers.{result_of, range_of, finished_of}
use Rattle.hns_encoding.specs.Format.{num, ◌▸◌, read}
use Rattle.hns_encoding.proofs.Reading.{value_read, refusal_read}
use Rattle.hns_decoder.specs.declared.Decoder.{Decoder}
use Rattle.hns_decoder.specs.Answers.{value_of}
use Rattle.hns_decoder.specs.Places.{at_place, place_after, Reads, NumberRead}

-- a read of one value: the place moves on, or the read is refused and stays
module _ {A : Type 0} (d : Decoder) (o : Outcome A) {r : Answer (A × ℕ)} (e : r ≡ result_of o) where
  pub moves_on : {v : A} {next : ℕ} → r ≡ Ok (v, next) → Reads value_of o d (Ok v) (at_place d next)
  unfolding value_of place_after
  moves_on g = rw (value_read o e g) (refl, refl)

  pub stays : {q : Refusal} {a : Answer A} → r ≡ Err q → a ≡ Err q → Reads value_of o d a d
  unfolding value_of place_after
  stays g f = rw (refusal_read o e g) (f, refl)

-- the same of bytes
pub moves_past : (d : Decoder) (o : Outcome (List ℕ)) {r : Answer Slice} {x : Slice} → r ≡ range_of o → r ≡ Ok x → at_place d x.end ≡ at_place d (place_after o d.position)
unfolding range_of place_after
moves_past d (got bs next) e g = cc
moves_past d (stop q) e g = cc

pub stays_before : (d : Decoder) (o : Outcome (List ℕ)) {r : Answer Slice} {q : Refusal} → r ≡ range_of o → r ≡ Err q → d ≡ at_place d (place_after o d.position)
unfolding range_of place_after
stays_before d (got bs next) e g = cc
stays_before d (stop q) e g = refl

-- a reader that stands at a place
pub record At (d : Decoder) (s : Bor (List ℕ)) (p : ℕ) : Type 0 where
  pub input : d.input ≡ s
  pub position : d.position ≡ p

-- what is read there
module _ (item : List ℕ → ℕ → Outcome ℕ) (s : Bor (List ℕ)) (p : ℕ) {a : Answer ℕ} where
  gives : (o : Outcome ℕ) {v : ℕ} → a ≡ value_of o → a ≡ Ok v → o ≡ got v (place_after o p)
  unfolding value_of place_after
  gives (got v next) e g = cc
  gives (stop q) e g = cc

  refuses : (o : Outcome ℕ) {q : Refusal} → a ≡ value_of o → a ≡ Err q → o ≡ stop q
  unfolding value_of
  refuses (got v next) e g = cc
  refuses (stop q) e g = cc

  module _ {d d' : Decoder} (at : At d s p) (e : Reads value_of (item d.input.now d.position) d a d') where
    same : item d.input.now d.position ≡ item s.now p
    same = rw (at.input, at.position)

    pub was_read : {v : ℕ} → a ≡ Ok v → item s.now p ≡ got v (place_after (item s.now p) p)
    was_read g = gives (item s.now p) (e.0 ∙ ap value_of same) g

    pub was_refused : {q : Refusal} → a ≡ Err q → item s.now p ≡ stop q
    was_refused g = refuses (item s.now p) (e.0 ∙ ap value_of same) g

    pub then_at : At d' s (place_after (item s.now p) p)
    then_at = rw e.1 (record { input = at.input; position = rw (at.input, at.position) })

-- the end, by what it answered
ended : (o : Outcome (Unit {0})) {z : Answer (Unit {0})} {q : Refusal} → z ≡ finished_of o → z ≡ Err q → o ≡ stop q
unfolding finished_of
ended (got u last) e g = cc
ended (stop r) e g = cc

passed : (o : Outcome (Unit {0})) {z : Answer (Unit {0})} → z ≡ finished_of o → z ≡ Ok tt → (last : ℕ) × (o ≡ got tt last)
unfolding finished_of
passed (got u last) e g = (last, refl)
passed (stop r) e g = cc

both_read : (s : List ℕ) {m v p q : ℕ} → le_at 1 s 0 ≡ got m p → le_at 8 s p ≡ got v q → read (num 1 ▸ num 8) s 0 ≡ got (m, v) q
unfolding read
both_read s e f = rw (e, f)

-- mode and version, and the end after them
module _ {s : Bor (List ℕ)} {d₀ d₁ : Decoder} {a : Answer ℕ} (i : d₀.input ≡ s) (j : d₀.position ≡ 0) (e₁ : NumberRead (le_at 1) d₀ a d₁) where
  start : At d₀ s 0
  start = record { input = i; position = j }

  pub mode_refused : {q : Refusal} → a ≡ Err q → Err q ≡ value_of (to_end (read (num 1 ▸ num 8)) s.now)
  unfolding read to_end value_of
  mode_refused g = rw (was_refused (le_at 1) s 0 start e₁ g)

  module _ {m : ℕ} (g₁ : a ≡ Ok m) {d₂ : Decoder} {b : Answer ℕ} (e₂ : NumberRead (le_at 8) d₁ b d₂) where
    second : At d₁ s (place_after (le_at 1 s.now 0) 0)
    second = then_at (le_at 1) s 0 start e₁

    pub version_refused : {q : Refusal} → b ≡ Err q → Err q ≡ value_of (to_end (read (num 1 ▸ num 8)) s.now)
    unfolding read to_end value_of
    version_refused g = rw (was_read (le_at 1) s 0 start e₁ g₁) (rw (was_refused (le_at 8) s _ second e₂ g))

    module _ {v : ℕ} (g₂ : b ≡ Ok v) {z : Answer (Unit {0})} (e₃ : z ≡ finished_of (end_at d₂.input.now d₂.position)) where
      abbrev last : ℕ
      last = let p = place_after (le_at 1 s.now 0) 0 in place_after (le_at 8 s.now p) p

      both : read (num 1 ▸ num 8) s.now 0 ≡ got (m, v) last
      both = both_read s.now (was_read (le_at 1) s 0 start e₁ g₁) (was_read (le_at 8) s _ second e₂ g₂)

      end_at_last : z ≡ finished_of (end_at s.now last)
      end_at_last = let at = then_at (le_at 8) s _ second e₂ in rw (at.input, at.position) at e₃

      pub end_refused : {q : Refusal} → z ≡ Err q → Err q ≡ value_of (to_end (read (num 1 ▸ num 8)) s.now)
      unfolding to_end value_of
      end_refused g = rw (both, ended _ end_at_last g)

      pub all_read : z ≡ Ok tt → Ok (m, v) ≡ value_of (to_end (read (num 1 ▸ num 8)) s.now)
      unfolding to_end value_of
      all_read g = rw (both, (passed _ end_at_last g).1)
