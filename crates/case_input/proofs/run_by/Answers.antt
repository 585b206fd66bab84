use Rattle.std.proofs.Common.{[], ◌++◌, length, take, append_assoc, append-nil, rules}
use Rattle.std.specs.Fn.{CalledAt}
use Rattle.std.specs.Io.KnownBytes.{Consumes}
use Rattle.case_input.specs.Cases.{begun, unbegun, cases_by, Answers}
use Rattle.case_input.proofs.Cases.{none_left, consumes_more, gave}
use Rattle.case_input.proofs.run_by.Goals.{else-loop-test, then-loop-test+then-n-eq0+then-filled-eq0}
use Rattle.case_input.proofs.run_by.Goals as goal

pub loop-preserved : goal.loop-preserved
loop-preserved g c =
    let inv = c.loop.invariant in
    let chunk = take c.unwrap_or-n.result c.read.new.buf in
    let here : Consumes (g.I.Read.remaining c.loop.input) (g.I.Read.remaining c.read.new.self) chunk = gave c.read.result c.unwrap_or-n.result _ _ c.read.new.buf c.unwrap_or-n.ensures c.read.ensures.bytes in (
      search rules,
      search rules,
      search rules,
      search rules,
      inv.4 ++ chunk,
      consumes_more _ _ _ inv.4 chunk inv.5 here,
      λ more h. rw (append_assoc inv.4 chunk more) (inv.6 (chunk ++ more) (rw inv.1 at (c.in_ok-line.ensures.answered more (rw inv.1 h)))),
    )

pub returns : goal.returns
returns g c =
    let inv = c.loop.invariant in
    let all : Answers (CalledAt g.F.FnMut) c.args.answer (cases_by g.D.Digit.taken (length c.args.case.now) unbegun inv.4) = rw append-nil at (inv.6 [] (none_left (CalledAt g.F.FnMut) g.D.Digit.taken (length c.args.case.now) (begun c.loop.line c.loop.case) c.loop.answer)) in
    elim c.loop-test.branch [
      | else-loop-test w ↦ (inv.4, rw w.input-is inv.5, all)
      | then-loop-test+then-n-eq0+then-filled-eq0 w ↦
          let here : Consumes (g.I.Read.remaining c.loop.input) (g.I.Read.remaining w.read.new.self) [] = rw w.if-n-eq0.true at (gave w.read.result w.unwrap_or-n.result _ _ w.read.new.buf w.unwrap_or-n.ensures w.read.ensures.bytes) in
          let both : Consumes (g.I.Read.remaining c.args.input.now) (g.I.Read.remaining w.read.new.self) inv.4 = rw append-nil at (consumes_more _ _ _ inv.4 [] inv.5 here) in
          (inv.4, rw w.input-is both, all)
    ]
