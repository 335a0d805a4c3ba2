use Rattle.std.proofs.Common.{cond, Ok, Err, sym, subst, ◌∙◌}
use Rattle.std.proofs.lemmas.Result.{err_from_is_err_and}
use Rattle.wf_io.specs.Steps.{Skips, Lent}
use Rattle.wf_io.proofs.Seeking.{holds_after}
use Rattle.wf_io.proofs.lines.Lines.lend_held.Goals as goal

pub returns-in_err-lend_line : goal.returns-in_err-lend_line
returns-in_err-lend_line c =
    let p = err_from_is_err_and c.from_residual.result c.from_residual.ensures.1 in
    let h = holds_after c.args.self.now c.loop-end.self c.first_newline.new.self c.lend_line.new.self c.in-Some.end (Err c.in_err-lend_line.field-0.0) c.loop-end.invariant
    c.first_newline.ensures.same (sym c.first_newline.ensures.found ∙ c.in-Some.is) c.first_newline.ensures.sound c.requires.live c.in_err-lend_line.ensures in
    rw (p.1, p.2) h

pub returns-then-branch : goal.returns-then-branch
returns-then-branch c =
    let h = holds_after c.args.self.now c.loop-end.self c.first_newline.new.self c.lend_line.new.self c.in-Some.end (Ok c.in_ok-lend_line.field-0) c.loop-end.invariant
    c.first_newline.ensures.same (sym c.first_newline.ensures.found ∙ c.in-Some.is) c.first_newline.ensures.sound c.requires.live c.in_ok-lend_line.ensures in
    subst (λ g. cond g (Lent c.args.self.now c.lend_line.new.self) (Skips c.args.self.now c.lend_line.new.self)) c.if-branch.true h

pub loop-end-preserved : goal.loop-end-preserved
loop-end-preserved c =
    let h = holds_after c.args.self.now c.loop-end.self c.first_newline.new.self c.lend_line.new.self c.in-Some.end (Ok c.in_ok-lend_line.field-0) c.loop-end.invariant
    c.first_newline.ensures.same (sym c.first_newline.ensures.found ∙ c.in-Some.is) c.first_newline.ensures.sound c.requires.live c.in_ok-lend_line.ensures in
    subst (λ g. cond g (Lent c.args.self.now c.lend_line.new.self) (Skips c.args.self.now c.lend_line.new.self)) c.if-branch.false h
