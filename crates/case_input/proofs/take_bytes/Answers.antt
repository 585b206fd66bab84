use Rattle.std.proofs.Common.{◌≡◌, length, take, get_or, Ok, subst, of_calls, rules}
use Rattle.std.specs.Fn.{Called, CalledAt}
use Rattle.case_input.specs.Cases.{begun, unbegun}
use Rattle.case_input.proofs.Cases.{line_ended, digit_taken, at_end}
use Rattle.case_input.proofs.take_bytes.Goals.{then-byte-eq10+in_ok-answer+in_ok-println, else-byte-eq10}
use Rattle.case_input.proofs.take_bytes.Goals as goal

pub loop-byte-preserved : goal.loop-byte-preserved
loop-byte-preserved g c =
    let i = c.loop-byte.byte-index in
    let bytes = c.args.bytes.now in
    let room = length c.args.case.now in
    let line = c.loop-byte.line in
    let case = c.loop-byte.case in
    let inv = c.loop-byte.invariant in
    elim c.if-byte-eq10.branch [
      | then-byte-eq10+in_ok-answer+in_ok-println w ↦
          let fresh : begun c.if-byte-eq10.line c.if-byte-eq10.case ≡ unbegun = search rules in
          let call : CalledAt g.F.FnMut c.loop-byte.answer (take line.size case) (Ok tt) w.answer.new.self =
          record { shown = w.first.result; shows = search rules; called = subst (λ r. Called g.F.FnMut c.loop-byte.answer (w.first.result, tt) r w.answer.new.self) w.in_ok-answer.was w.answer.ensures } in (
            search of_calls,
            search rules,
            search rules,
            λ more h. inv.3 more (line_ended (CalledAt g.F.FnMut) g.D.Digit.taken room i (begun line case) bytes more c.loop-byte.answer w.answer.new.self c.loop-byte-test.true (search rules) call (rw (w.answer-is, fresh) at h)),
          )
      | else-byte-eq10 w ↦
          let next : begun c.if-byte-eq10.line c.if-byte-eq10.case ≡ g.D.Digit.taken room (begun line case) (get_or bytes i 0) = search rules in (
            search of_calls,
            search rules,
            search rules,
            λ more h. inv.3 more (digit_taken (CalledAt g.F.FnMut) g.D.Digit.taken room i (begun line case) bytes more c.loop-byte.answer c.loop-byte-test.true (search rules) (rw (w.answer-is, next) at h)),
          )
    ]

pub returns-clause-answered : goal.returns-clause-answered
returns-clause-answered g c more h = c.loop-byte.invariant.3 more (at_end (CalledAt g.F.FnMut) g.D.Digit.taken (length c.args.case.now) c.loop-byte.byte-index (begun c.loop-byte.line c.loop-byte.case) c.args.bytes.now more c.loop-byte.answer (search rules) h)
