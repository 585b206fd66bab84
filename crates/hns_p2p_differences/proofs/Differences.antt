-- Differences of one byte and of three as they stand, sixteen of them at once, and the list as it is passed. Assumes nothing.
use Prim.Native.Nat.{ℕ, suc, ◌+◌, ◌-◌, ◌*◌, ◌≤◌, ◌<◌}
use mathlib.Core.Path.{◌≡◌, refl, sym, ap, ◌∙◌}
use mathlib.Core.List.{List}
use Rattle.std.specs.Prelude.{Result, Ok, Err}
use mathlib.Core.Bool.{Bool, true, false, ◌&&◌}
use native.Mathlib.Omega.{arith}
use lib.ListN.{length, get_or}
use lib.Dec.{leb, ltb, eqb}
use borrow.Author.Tests.{lt-ltb, le-leb, ltb-true, leb-true, eqb-true}
use Rattle.hns_refusals.specs.Limits.{max_index}
use Rattle.hns_refusals.specs.declared.Refusal.{Refusal}
use Rattle.hns_refusals.specs.Refusals.{index_over, index_field}
use Rattle.hns_encoding.specs.Bytes.{le, part, got, le_at, number_at}
use Rattle.hns_encoding.specs.Compact.{wide_at, compact_from, compact_at, count_at}
use Rattle.hns_encoding.specs.Format.{indexes_from}
use Rattle.hns_encoding.specs.Answers.{result_of}
use Rattle.hns_encoding.proofs.Numbers.{le_part_add}
use Rattle.hns_encoding.proofs.Outcomes.{bytes_fits}
use Rattle.hns_encoding.proofs.Reading.{number_there, byte_number, value_read}
use Rattle.hns_p2p_differences.specs.Passing.{passed_of}
use Rattle.hns_p2p_differences.specs.Helpers.{passed_after, Grouped, NextGroup}
use Rattle.hns_p2p_differences.proofs.Passing.{passed_first, index_refused, if_index_over, index_next, difference_most, indexes_end}

-- ---- one difference

pub one_byte : (s : List ℕ) (p : ℕ) → p < length s → get_or s p 0 < 253 → count_at max_index index_field s p ≡ got (get_or s p 0) (p + 1)
unfolding count_at compact_at le_at compact_from
one_byte s p h b =
    let small : get_or s p 0 ≤ max_index = omega arith in
    rw (bytes_fits 1 s p (omega arith), ← byte_number s p h, lt-ltb (get_or s p 0) 253 b, le-leb (get_or s p 0) max_index small)

-- the two bytes after a first one are a number
pub two_number : (s : List ℕ) (p : ℕ) → p + 3 ≤ length s → {low high : ℕ} → low ≡ get_or s (p + 1) 0 → high ≡ get_or s (p + 2) 0 → low + 256 * high ≡ number_at 2 s (p + 1)
two_number s p h el eh =
    let place : p + 1 + 1 ≡ p + 2 = omega arith in
    let low = byte_number s (p + 1) (omega arith) in
    let high = byte_number s (p + 2) (omega arith) in
    omega (arith, el, eh, number_there 2 s (p + 1) (omega arith), rw place at (le_part_add s (p + 1) 1 1 (omega arith)), low, high)

three_bytes : (s : List ℕ) (p : ℕ) → p + 3 ≤ length s → get_or s p 0 ≡ 253 → {low high : ℕ} → low ≡ get_or s (p + 1) 0 → high ≡ get_or s (p + 2) 0 → 253 ≤ low + 256 * high → low + 256 * high ≤ max_index
    → count_at max_index index_field s p ≡ got (low + 256 * high) (p + 3)
unfolding count_at compact_at le_at compact_from wide_at
three_bytes s p h b {low} {high} el eh least most =
    let is : le (part s (p + 1) 2) ≡ low + 256 * high = sym (two_number s p h el eh ∙ number_there 2 s (p + 1) (omega arith)) in
    let end : p + 1 + 2 ≡ p + 3 = omega arith in
    rw (bytes_fits 1 s p (omega arith), ← byte_number s p (omega arith), b, bytes_fits 2 s (p + 1) (omega arith), is, le-leb 253 (low + 256 * high) least, le-leb (low + 256 * high) max_index most, end)

-- it is passed where its index is not too great
one_passed : (k base : ℕ) (s : List ℕ) (p : ℕ) {d next : ℕ} → count_at max_index index_field s p ≡ got d next → base + d ≤ max_index
    → passed_after (base - 1) (indexes_from (suc k) base s p) ≡ passed_after (base + d + 1 - 1) (indexes_from k (base + d + 1) s next)
unfolding result_of
one_passed k base s p {d} {next} e h =
    let last : base + d + 1 - 1 ≡ base + d = omega arith in
    index_next k (base - 1) base s p refl (ap result_of e) h ∙ ap (λ (i : ℕ). passed_after i (indexes_from k (base + d + 1) s next)) (sym last)

-- ---- sixteen at once

pub both : (a b : Bool) → (a && b) ≡ true → (a ≡ true) × (b ≡ true)
both true b e = (refl, e)
both false b e = let z : false ≡ true = e in (z, cc)

-- i are walked
pub record WalkTo (s : List ℕ) (base p least next : ℕ) (good : Bool) (i : ℕ) : Type 0 where
  pub some : i ≤ 16
  pub place : next ≤ p + 3 * i
  pub high : least ≤ base + i * 65536
  pub rest : good ≡ true → least ≤ max_index + 1 → (k : ℕ) → passed_after (base - 1) (indexes_from (16 + k) base s p) ≡ passed_after (least - 1) (indexes_from (16 - i + k) least s next)

pub walk_start : (s : List ℕ) (base p : ℕ) → WalkTo s base p base p true 0
walk_start s base p = record { some = omega arith; place = omega arith; high = omega arith; rest = λ t h k. refl }

pub run_start : (s : List ℕ) (base p : ℕ) → WalkTo s base p base (p + 0) true 0
run_start s base p = let here : p + 0 ≡ p = omega arith in rw here (walk_start s base p)

module _ {s : List ℕ} {base p least next : ℕ} {good : Bool} {i : ℕ} (t : WalkTo s base p least next good i) where
  walk_turn : i < 16 → {d after : ℕ} {good' : Bool} → d ≤ max_index → after ≤ next + 3 → (good' ≡ true → (good ≡ true) × (count_at max_index index_field s next ≡ got d after))
      → WalkTo s base p (least + (d + 1)) after good' (i + 1)
  walk_turn h {d} small near f =
      record {
        some = omega arith;
        place = omega (arith, t.place);
        high = omega (arith, t.high);
        rest = λ q low k. (let g = f q in let more : 16 - i + k ≡ suc (16 - (i + 1) + k) = omega arith in let one : least + (d + 1) ≡ least + d + 1 = omega arith in rw one (t.rest g.0 (omega arith) k ∙ (ap (λ (n : ℕ). passed_after (least - 1) (indexes_from n least s next)) more ∙ one_passed (16 - (i + 1) + k) least s next g.1 (omega arith))));
      }

  module _ (h : i < 16) (inside : p + 48 ≤ length s) where
    pub walk_inside : next + 3 ≤ length s
    walk_inside = omega (arith, t.place)

    module _ {head : ℕ} (e : head ≡ get_or s next 0) where
      pub walk_one : head < 253 → WalkTo s base p (least + (head + 1)) (next + 1) good (i + 1)
      walk_one b = walk_turn h (omega arith) (omega arith) (λ q. (q, rw e (one_byte s next (omega (arith, walk_inside)) (omega arith))))

      pub walk_three : {low high : ℕ} → low ≡ get_or s (next + 1) 0 → high ≡ get_or s (next + 2) 0 → low < 256 → high < 256 → WalkTo s base p (least + (low + 256 * high + 1)) (next + 3) (good && (eqb head 253 && leb 253 (low + 256 * high))) (i + 1)
      walk_three {low} {high} el eh bl bh = walk_turn h (omega arith) (omega arith) said
        where
          said : (good && (eqb head 253 && leb 253 (low + 256 * high))) ≡ true → (good ≡ true) × (count_at max_index index_field s next ≡ got (low + 256 * high) (next + 3))
          said q =
              let first = both good (eqb head 253 && leb 253 (low + 256 * high)) q in
              let two = both (eqb head 253) (leb 253 (low + 256 * high)) first.1 in
              (first.0, three_bytes s next walk_inside (sym e ∙ eqb-true head 253 two.0) el eh (leb-true 253 (low + 256 * high) two.1) (omega arith))

  pub walk_end : 16 ≤ i → (good && leb least (max_index + 1)) ≡ true → Grouped s base p least next
  walk_end h q =
      let two = both good (leb least (max_index + 1)) q in
      let low : least ≤ max_index + 1 = leb-true least (max_index + 1) two.1 in
      record { low = low; rest = λ k. (let all : 16 - i + k ≡ k = omega arith in t.rest two.0 low k ∙ ap (λ (n : ℕ). passed_after (least - 1) (indexes_from n least s next)) all) }

-- bytes at places one after another, which are all looked at
module _ {s : List ℕ} {base p least : ℕ} {alone : Bool} {i : ℕ} (t : WalkTo s base p least (p + i) alone i) where
  pub run_turn : i < 16 → p + 16 ≤ length s → {head : ℕ} → head ≡ get_or s (p + i) 0 → head < 256 → WalkTo s base p (least + (head + 1)) (p + (i + 1)) (alone && ltb head 253) (i + 1)
  run_turn h inside {head} e b =
      let next : p + i + 1 ≡ p + (i + 1) = omega arith in
      rw (← next) (walk_turn t h (omega arith) (omega arith) said)
    where
      said : (alone && ltb head 253) ≡ true → (alone ≡ true) × (count_at max_index index_field s (p + i) ≡ got head (p + i + 1))
      said q =
          let two = both alone (ltb head 253) q in
          (two.0, rw e (one_byte s (p + i) (omega arith) (rw e at (ltb-true head 253 two.1))))

  pub run_end : 16 ≤ i → (alone && leb least (max_index + 1)) ≡ true → Grouped s base p least (p + 16)
  run_end h q = let all : i ≡ 16 = omega (arith, t.some) in rw all at (walk_end t h q)

-- ---- the list

-- i indexes are passed, and the others are read from `next` on, each at least `base`
pub record PassedTo (count : ℕ) (s : List ℕ) (first i base next : ℕ) : Type 0 where
  pub some : i ≤ count
  pub low : base ≤ max_index + 1
  pub whole : passed_of (indexes_from count 0 s first) ≡ passed_after (base - 1) (indexes_from (count - i) base s next)

pub pass_start : (count : ℕ) (s : List ℕ) (first : ℕ) → PassedTo count s first 0 0 first
pass_start count s first =
    let all : count - 0 ≡ count = omega arith in
    let none : 0 - 1 ≡ 0 = omega arith in
    record { some = omega arith; low = omega arith; whole = rw (all, none) (passed_first (indexes_from count 0 s first)) }

module _ {count : ℕ} {s : List ℕ} {first i base next : ℕ} (t : PassedTo count s first i base next) where
  pub pass_group : {least after : ℕ} → NextGroup s base next i count least after → PassedTo count s first (i + 16) least after
  pass_group r =
      let left = r.left in
      let many : count - i ≡ 16 + (count - (i + 16)) = omega arith in
      record { some = left; low = r.grouped.low; whole = t.whole ∙ rw many (r.grouped.rest (count - (i + 16))) }

  module _ (h : i < count) {read : Result (ℕ × ℕ) Refusal} (e : read ≡ result_of (count_at max_index index_field s next)) where
    here : passed_of (indexes_from count 0 s first) ≡ passed_after (base - 1) (indexes_from (suc (count - (i + 1))) base s next)
    here =
        let more : count - i ≡ suc (count - (i + 1)) = omega arith in
        t.whole ∙ ap (λ (k : ℕ). passed_after (base - 1) (indexes_from k base s next)) more

    pub pass_refused : {r : Refusal} → read ≡ Err r → Err r ≡ passed_of (indexes_from count 0 s first)
    pass_refused g = sym (here ∙ index_refused (count - (i + 1)) (base - 1) base s next e g)

    module _ {d after : ℕ} (g : read ≡ Ok (d, after)) where
      pub pass_most : d ≤ max_index
      pass_most = difference_most 0 0 0 s next e g

      pub pass_over : max_index < base + d → Err index_over ≡ passed_of (indexes_from count 0 s first)
      pass_over over = sym (here ∙ if_index_over (count - (i + 1)) (base - 1) base s next e g over)

      pub pass_next : base + d ≤ max_index → PassedTo count s first (i + 1) (base + d + 1) after
      pass_next small =
          record {
            some = omega arith;
            low = omega arith;
            whole = here ∙ one_passed (count - (i + 1)) base s next (value_read (count_at max_index index_field s next) e g) small;
          }

  pub pass_end : count ≤ i → {last : ℕ} → last ≡ base - 1 → Ok (record { next = next; last = last }) ≡ passed_of (indexes_from count 0 s first)
  pass_end h q =
      let none : count - i ≡ 0 = omega arith in
      ap (λ (n : ℕ). Ok (record { next = next; last = n })) q ∙ sym (t.whole ∙ (ap (λ (k : ℕ). passed_after (base - 1) (indexes_from k base s next)) none ∙ indexes_end (base - 1) base s next))
