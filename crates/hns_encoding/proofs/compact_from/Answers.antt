use Rattle.std.proofs.Common.{arith, rules, Err}
use mathlib.Core.Path.{◌≡◌, ap, ◌∙◌}
use Rattle.hns_encoding.specs.Answers.{result_of}
use Rattle.hns_encoding.proofs.Reading.{width_most, number_picked, form_picked, wide_short, wide_low, wide_fits}
use Rattle.hns_encoding.proofs.compact_from.Goals as goal

pub overflow_mul-result : goal.overflow_mul-result
overflow_mul-result c = omega (arith, width_most c.args.first)

pub returns-in_err-end : goal.returns-in_err-end
returns-in_err-end c =
    let a = c.args in
    let refused : c.from_residual.result ≡ Err c.in_err-end.field-0.0 = search rules in
    refused ∙ wide_short _ _ _ _ c.read_slice.ensures c.in_err-end.was ∙ ap result_of (form_picked a.first a.input.now a.next c.if-first-lt253.false c.by_form-width.ensures c.by_form-least.ensures)

pub returns-then-value-least : goal.returns-then-value-least
returns-then-value-least c =
    let a = c.args in
    let is = number_picked a.first a.input.now a.next (c.from-two.ensures ∙ c.u16_at.ensures) (c.from-four.ensures ∙ c.u32_at.ensures) c.u64_at.ensures c.by_form-value.ensures c.by_form-width.ensures in
    wide_low _ _ _ _ c.read_slice.ensures c.in_ok-end.was is c.if-value-least.true ∙ ap result_of (form_picked a.first a.input.now a.next c.if-first-lt253.false c.by_form-width.ensures c.by_form-least.ensures)

pub returns : goal.returns
returns c =
    let a = c.args in
    let is = number_picked a.first a.input.now a.next (c.from-two.ensures ∙ c.u16_at.ensures) (c.from-four.ensures ∙ c.u32_at.ensures) c.u64_at.ensures c.by_form-value.ensures c.by_form-width.ensures in
    wide_fits _ _ _ _ c.read_slice.ensures c.in_ok-end.was is c.if-value-least.false ∙ ap result_of (form_picked a.first a.input.now a.next c.if-first-lt253.false c.by_form-width.ensures c.by_form-least.ensures)
