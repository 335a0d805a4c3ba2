use Rattle.std.proofs.Common.{◌∙◌, refl, arith}
use Rattle.wf_lines.proofs.Dues.{due_none, cut_longer, cut_behind}
use Rattle.wf_lines.proofs.due.Due.renew.Goals as goal

pub returns-in_err-put-clause-err : goal.returns-in_err-put-clause-err
returns-in_err-put-clause-err g c = λ _. cut_longer _ _ _ _ (c.in_err-put.ensures.err refl)

pub returns-in-Ok-clause-ok : goal.returns-in-Ok-clause-ok
returns-in-Ok-clause-ok g c = due_none _ _ _ _ _ _ c.in_ok-put.ensures.ok c.in-Ok.ensures.ok (c.if-keep.ensures.unchanged ∙ c.in_ok-put.ensures.none)

pub returns-in-Err-clause-err : goal.returns-in-Err-clause-err
returns-in-Err-clause-err g c = λ _. cut_behind _ _ _ _ _ c.in_ok-put.ensures.ok (record { some = grind (arith, c.is_empty.ensures, c.if-is_empty.ensures, c.if-is_empty.false); begun = c.in-Err.ensures.err refl })
