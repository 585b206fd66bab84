-- What a run's calls add up to, from one byte to the next. Assumes nothing.
use Rattle.std.proofs.Common.{◌≡◌, ◌≢◌, ℕ, ◌+◌, ◌*◌, ◌%◌, ◌<◌, ◌≤◌, Bool, true, false, List, [], ◌∷◌, ◌++◌, length, take, set, get_or, drop, Option, None, Some, Result, Ok, Err, sym, ap, subst, ◌∙◌, eq-eqb, ne_eqb, le-leb, append_assoc, leb, rules}
use mathlib.Core.Path.{refl}
use borrow.Author.Tests.{lt-leb}
use Rattle.std.specs.Char.{digit_value}
use Rattle.std.specs.Io.KnownBytes.{Consumes, Keeps, ReadConsumes}
use Rattle.std.specs.Result.{result_unwrap_or}
use native.Mathlib.Numerals.{unary_clauses}
use Rattle.std.proofs.Math.Seq.{take-suc-set}
use Rattle.std.proofs.lemmas.List.{places, drop_all, drop_more}
use Rattle.case_input.specs.declared.Line.{Line}
use Rattle.hns_encoding.specs.Bytes.{choose}
use Rattle.case_input.specs.Cases.{Begun, begun, unbegun, value_of, with_value, with_digit, with_any, TakenAs, cases_by, Answers}

-- ---- a digit

pub any_there : (d : ℕ) → TakenAs with_any d (Some (value_of d))
unfolding with_any
any_there d room s = refl

pub digit_there : (d v : ℕ) → digit_value d < 16 → v ≡ digit_value d → TakenAs with_digit d (Some v)
unfolding with_digit
digit_there d v h e room s = rw (lt-leb _ _ h, e) refl

pub digit_missing : (d : ℕ) → 16 ≤ digit_value d → TakenAs with_digit d None
unfolding with_digit
digit_missing d h room s = rw (le-leb _ _ h) (same (leb room (length s.bytes)))
  where
    same : (b : Bool) → choose b s s ≡ s
    same true = refl
    same false = refl

module _ (taken : ℕ → Begun → ℕ → Begun) (line : Line) (case : List ℕ) (d : ℕ) where
  pub no_digit : TakenAs taken d None → begun line case ≡ taken (length case) (begun line case) d
  no_digit h = sym (h (length case) (begun line case))

  pub no_room : (o : Option ℕ) → TakenAs taken d o → line.size ≤ length case → length case ≤ line.size → begun line case ≡ taken (length case) (begun line case) d
  no_room None h l m = no_digit h
  no_room (Some v) h l m =
      let full : length case ≤ length (take line.size case) = search (rules, places) in
      sym (h (length case) (begun line case) ∙ (rw (le-leb _ _ full) refl))

  put_in : (v : ℕ) (half : Option ℕ) → TakenAs taken d (Some v) → line.half ≡ half → line.size < length case → with_value (take line.size case) half v ≡ taken (length case) (begun line case) d
  put_in v half h e l =
      let more : length (take line.size case) < length case = search (rules, places) in
      sym (h (length case) (begun line case) ∙ (rw (lt-leb _ _ more, e) refl))

  -- the byte that the digit begins is no byte of the case yet, whatever stands there
  pub first_digit : (v : ℕ) (now : List ℕ) → take line.size now ≡ take line.size case → TakenAs taken d (Some v) → line.half ≡ None → line.size < length case
      → begun (record { size = line.size; half = Some v }) now ≡ taken (length case) (begun line case) d
  first_digit v now same h none l = rw same (put_in v None h none l)

  pub second_digit : (v high : ℕ) → TakenAs taken d (Some v) → line.half ≡ Some high → line.size < length case
      → begun (record { size = line.size + 1; half = None }) (set case line.size (high % 16 * 16 + v)) ≡ taken (length case) (begun line case) d
  second_digit v high h some l =
      let bytes : take (line.size + 1) (set case line.size (high % 16 * 16 + v)) ≡ take line.size case ++ ((high % 16 * 16 + v) ∷ []) = simp unary_clauses (take-suc-set case line.size (high % 16 * 16 + v) l) in
      rw bytes (put_in v (Some high) h some l)

-- ---- a byte of an input

module _ {F E : Type 0} (called : F → List ℕ → Result (Unit {0}) E → F → Type 0) (taken : ℕ → Begun → ℕ → Begun) where
  pub line_ended : (room i : ℕ) (s : Begun) (bytes more : List ℕ) (f g : F) → i < length bytes → get_or bytes i 0 ≡ 10 → called f s.bytes (Ok tt) g → Answers called g (cases_by taken room unbegun (drop (i + 1) bytes ++ more)) → Answers called f (cases_by taken room s (drop i bytes ++ more))
  unfolding Answers cases_by
  line_ended room i s bytes more f g l e h rest = rw (drop_more bytes i 0 l, eq-eqb _ _ e) (g, h, rest)

  pub digit_taken : (room i : ℕ) (s : Begun) (bytes more : List ℕ) (f : F) → i < length bytes → get_or bytes i 0 ≢ 10 → Answers called f (cases_by taken room (taken room s (get_or bytes i 0)) (drop (i + 1) bytes ++ more)) → Answers called f (cases_by taken room s (drop i bytes ++ more))
  unfolding cases_by
  digit_taken room i s bytes more f l e h = rw (drop_more bytes i 0 l, ne_eqb _ _ e) h

  pub at_end : (room i : ℕ) (s : Begun) (bytes more : List ℕ) (f : F) → length bytes ≤ i → Answers called f (cases_by taken room s more) → Answers called f (cases_by taken room s (drop i bytes ++ more))
  at_end room i s bytes more f l h = rw (drop_all i bytes l) h

  pub none_left : (room : ℕ) (s : Begun) (f : F) → Answers called f (cases_by taken room s [])
  unfolding Answers cases_by
  none_left room s f = tt

-- ---- what an input gave

pub consumes_more : (a b c : Option (List ℕ)) (xs ys : List ℕ) → Consumes a b xs → Consumes b c ys → Consumes a c (xs ++ ys)
consumes_more None b c xs ys h k = tt
consumes_more (Some all) None c xs ys h k = elim h [ ]
consumes_more (Some all) (Some mid) None xs ys h k = elim k [ ]
consumes_more (Some all) (Some mid) (Some last) xs ys h k = h ∙ ap (λ t. xs ++ t) k ∙ sym (append_assoc xs ys last)

pub kept_none : (a b : Option (List ℕ)) → Keeps a b → Consumes a b []
kept_none None b h = tt
kept_none (Some xs) None h = elim h [ ]
kept_none (Some xs) (Some ys) h = sym h

-- a read's bytes; none where it failed
pub gave : {E : Type 0} (r : Result ℕ E) (n : ℕ) (old new : Option (List ℕ)) (buf : List ℕ) → n ≡ result_unwrap_or r 0 → ReadConsumes old new r buf → Consumes old new (take n buf)
gave (Ok m) n old new buf e h = subst (λ k. Consumes old new (take k buf)) (sym e) h.0
gave (Err x) n old new buf e h = subst (λ k. Consumes old new (take k buf)) (sym e) (kept_none old new h)
