-- An index list as it is passed, one difference after another. Assumes nothing.
use Prim.Native.Nat.{ℕ, suc, ◌+◌, ◌≤◌, ◌<◌}
use mathlib.Core.Path.{◌≡◌, refl}
use mathlib.Core.List.{List, ◌∷◌}
use borrow.Author.Tests.{le-leb, lt-leb}
use Rattle.std.specs.Prelude.{Result, Ok, Err}
use Rattle.hns_refusals.specs.declared.Refusal.{Refusal}
use Rattle.hns_refusals.specs.Limits.{max_index}
use Rattle.hns_refusals.specs.Refusals.{index_over, index_field}
use Rattle.hns_encoding.specs.Bytes.{Outcome, got, stop, after}
use Rattle.hns_encoding.specs.Compact.{count_at}
use Rattle.hns_encoding.specs.Format.{indexes_from}
use Rattle.hns_encoding.specs.Answers.{result_of}
use Rattle.hns_encoding.proofs.Outcomes.{count_got}
use Rattle.hns_encoding.proofs.Reading.{value_read, refusal_read}
use Rattle.hns_p2p_differences.specs.Passing.{passed_of}
use Rattle.hns_p2p_differences.specs.Helpers.{passed_after}

-- a list is passed as one after nothing
pub passed_first : (o : Outcome (List ℕ)) → passed_of o ≡ passed_after 0 o
unfolding passed_of passed_after
passed_first (got is next) = refl
passed_first (stop r) = refl

module _ (k before base : ℕ) (s : List ℕ) (p : ℕ) {read : Result (ℕ × ℕ) Refusal} (e : read ≡ result_of (count_at max_index index_field s p)) where
  pub index_refused : {r : Refusal} → read ≡ Err r → passed_after before (indexes_from (suc k) base s p) ≡ Err r
  unfolding passed_after
  index_refused g = rw (refusal_read (count_at max_index index_field s p) e g)

  module _ {d next : ℕ} (g : read ≡ Ok (d, next)) where
    pub difference_most : d ≤ max_index
    difference_most = (count_got max_index index_field s p (value_read (count_at max_index index_field s p) e g)).1

    pub if_index_over : max_index < base + d → passed_after before (indexes_from (suc k) base s p) ≡ Err index_over
    unfolding passed_after
    if_index_over h = rw (value_read (count_at max_index index_field s p) e g, lt-leb (base + d) max_index h)

    pub index_next : base + d ≤ max_index → passed_after before (indexes_from (suc k) base s p) ≡ passed_after (base + d) (indexes_from k (base + d + 1) s next)
    unfolding passed_after
    index_next h = rw (value_read (count_at max_index index_field s p) e g, le-leb (base + d) max_index h) (go (indexes_from k (base + d + 1) s next))
      where
        go : (o : Outcome (List ℕ)) → passed_after before (after o (λ is last. got ((base + d) ∷ is) last)) ≡ passed_after (base + d) o
        go (got is last) = refl
        go (stop r) = refl

pub indexes_end : (before base : ℕ) (s : List ℕ) (p : ℕ) → passed_after before (indexes_from 0 base s p) ≡ Ok (record { next = p; last = before })
unfolding passed_after
indexes_end before base s p = refl
