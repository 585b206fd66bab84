-- How far a run of compact sizes has been read: the values so far, and what is left of the whole run.
use Prim.Native.Nat.{ℕ, suc, ◌+◌, ◌-◌, ◌≤◌, ◌<◌}
use mathlib.Core.Path.{◌≡◌, refl, sym, ap, ◌∙◌}
use mathlib.Core.List.{List, [], ◌∷◌, ◌++◌, append_assoc, append-nil}
use native.Mathlib.Omega.{arith}
use native.Mathlib.Nat.{zero-add}
use lib.ListN.{length, set, length-append}
use Rattle.std.specs.Prelude.{Result, Ok, Err}
use Rattle.hns_refusals.specs.declared.Refusal.{Refusal}
use Rattle.hns_encoding.specs.Compact.{compact_at, Run, further, sizes_at}
use Rattle.hns_encoding.specs.Put.{splice}
use Rattle.hns_encoding.specs.Answers.{result_of, sizes_of}
use Rattle.hns_encoding.proofs.Reading.{value_read, refusal_read}
use Rattle.hns_encoding.proofs.Puts.{splice_fits, splice_append, splice_byte, length_splice}

-- values and then a run
abbrev joined : List ℕ → Run → Run
joined read run = record { values = read ++ run.values; next = run.next }

pub record ReadTo (s : List ℕ) (p : ℕ) (o₀ o : List ℕ) (count next : ℕ) : Type 0 where
  pub read : List ℕ
  pub many : length read ≡ count
  pub room : count ≤ length o₀
  pub stored : o ≡ splice o₀ 0 read
  pub rest : sizes_at (length o₀) s p ≡ joined read (sizes_at (length o₀ - count) s next)

pub read_start : (s : List ℕ) (p : ℕ) (o : List ℕ) → ReadTo s p o o 0 p
read_start s p o =
    record {
      read = [];
      many = refl;
      room = omega arith;
      stored = sym (splice_fits o 0 [] (omega arith));
      rest = let all : length o - 0 ≡ length o = omega arith in rw all;
    }

read_length : {s : List ℕ} {p : ℕ} {o₀ o : List ℕ} {count next : ℕ} → ReadTo s p o₀ o count next → length o ≡ length o₀
read_length {o₀ = o₀} t = ap length t.stored ∙ length_splice o₀ 0 t.read

-- nothing more is read
module _ {s : List ℕ} {p : ℕ} {o₀ o : List ℕ} {count next : ℕ} (t : ReadTo s p o₀ o count next) where
  pub full_here : length o₀ ≤ count → sizes_at (length o₀ - count) s next ≡ record { values = []; next = next }
  unfolding sizes_at
  full_here h = let none : length o₀ - count ≡ 0 = omega arith in rw none

  ended : sizes_at (length o₀ - count) s next ≡ record { values = []; next = next } → sizes_at (length o₀) s p ≡ record { values = t.read; next = next }
  ended e = t.rest ∙ rw (e, append-nil)

  pub ended_answer : sizes_at (length o₀ - count) s next ≡ record { values = []; next = next } → record { count = count; next = next } ≡ sizes_of (sizes_at (length o₀) s p)
  unfolding sizes_of
  ended_answer e = rw (ended e, t.many)

  -- every place has a value
  pub full_answer : length o₀ ≤ count → record { count = length o; next = next } ≡ sizes_of (sizes_at (length o₀) s p)
  full_answer h = let all : length o ≡ count = omega (arith, read_length t, t.room) in rw all (ended_answer (full_here h))

  pub ended_values : sizes_at (length o₀ - count) s next ≡ record { values = []; next = next } → o ≡ splice o₀ 0 (sizes_at (length o₀) s p).values
  ended_values e = rw (ended e) t.stored

-- a value more
module _ {s : List ℕ} {p : ℕ} {o₀ o : List ℕ} {count next : ℕ} (t : ReadTo s p o₀ o count next) (h : count < length o₀) where
  one_left : sizes_at (length o₀ - count) s next ≡ further (compact_at s next) next (λ after. sizes_at (length o₀ - (count + 1)) s after)
  unfolding sizes_at
  one_left = let more : length o₀ - count ≡ suc (length o₀ - (count + 1)) = omega arith in rw more

  pub refused_here : {read : Result (ℕ × ℕ) Refusal} {r : Refusal} → read ≡ result_of (compact_at s next) → read ≡ Err r → sizes_at (length o₀ - count) s next ≡ record { values = []; next = next }
  refused_here e g = one_left ∙ rw (refusal_read (compact_at s next) e g)

  pub one_more : {read : Result (ℕ × ℕ) Refusal} {v after : ℕ} → read ≡ result_of (compact_at s next) → read ≡ Ok (v, after) → ReadTo s p o₀ (set o count v) (count + 1) after
  one_more {v = v} {after = after} e g =
      record {
        read = t.read ++ v ∷ [];
        many = rw length-append (omega (arith, t.many));
        room = omega arith;
        stored = rw (splice_append, zero-add, t.many, ← t.stored, splice_byte);
        rest = t.rest ∙ rw (one_left, value_read (compact_at s next) e g) (rw append_assoc);
      }
