-- `put_decimal` meets its contract: the digits of what is left and those in the text are those of the number.
use Prim.Native.Nat.{◌+◌, ◌-◌}
use mathlib.Core.Path.{◌≡◌, refl, ◌∙◌}
use mathlib.Core.List.{append-nil}
use native.Mathlib.Omega.{arith}
use lib.ListN.{take, drop, set, length-set, length-drop}
use lib.Seq.{take_all}
use Rattle.survey_digits.specs.Digits.{decimal}
use Rattle.survey_digits.proofs.Digits.{digit_low, rest_turn, decimal_turn, decimal_end}
use Rattle.survey_digits.proofs.put_decimal.Goals as goal

pub loop-rest-init : goal.loop-rest-init
unfolding decimal
loop-rest-init c = (omega arith, (refl, (omega arith, append-nil _)))

pub loop-rest-preserved : goal.loop-rest-preserved
loop-rest-preserved c =
    let l = c.loop-rest in
    let t = rest_turn c.loop-rest.i c.loop-rest.rest c.loop-rest-test.true c.loop-rest.invariant.1.1.0 in
    let place : l.i - 1 + 1 ≡ l.i = omega arith in
    rw place (omega arith, (length-set l.text l.i _ ∙ l.invariant.1.0, (t.1, decimal_turn l.i c.args.n l.rest l.text c.loop-rest-test.true (omega arith) (omega (arith, c.digit_of.ensures ∙ digit_low _ (omega arith))) l.invariant.1.1.1)))

pub returns : goal.returns
returns c =
    let e = c in
    let l = e.loop-rest in
    let a = e.args in
    let all : take (20 - l.i) (drop l.i (set l.text l.i e.digit_of-2.result)) ≡ drop l.i (set l.text l.i e.digit_of-2.result) =
    take_all (20 - l.i) _ (simp (length-drop, length-set) (omega (arith, l.invariant.1.0))) in
    let digits = decimal_end l.i a.n l.rest l.text e.loop-rest-test.false (omega arith) (e.digit_of-2.ensures ∙ digit_low _ (omega arith)) l.invariant.1.1.1 in
    rw (all, digits) at c.put_bytes.ensures
