use Rattle.std.proofs.Common.{refl, subst}
use Rattle.wf_lines.specs.Taking.{IsDue}
use Rattle.cmd_make.proofs.MakingDue.{makes_text, makes_cut}
use Rattle.cmd_make.proofs.generate.put_piece.Goals as goal

pub returns-in-Ok-clause-makes : goal.returns-in-Ok-clause-makes
returns-in-Ok-clause-makes g c = λ before line told.
    makes_text before line _ _ _ (subst (λ t. IsDue t c.pass_on.new.self (g.O.Sink.put_bytes c.args.out.now) (g.O.Sink.put_bytes c.pass_on.new.out)) told c.in-Ok.ensures.ok) c.in-Ok.ensures.same (λ was. c.in-Ok.ensures.short)

pub returns-in-Err-clause-makes : goal.returns-in-Err-clause-makes
returns-in-Err-clause-makes g c = λ before line told.
    let cut = c.in-Err.ensures.err refl in
    makes_cut before line _ _ _ _ told cut.some cut.begun (c.in-Err.ensures.cause refl) c.in-Err.ensures.later
