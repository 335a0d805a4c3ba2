use Rattle.std.proofs.Common.{◌++◌, refl}
use Rattle.std.specs.Prelude.{codes}
use Rattle.std.proofs.lemmas.Result.{IfOk-weaker}
use Rattle.wf_lines.specs.Taking.{IsDue}
use Rattle.wf_lineage.proofs.ListedLines.{line_added, name_cut, newline_cut}
use Rattle.wf_lineage.proofs.entry.add_line.Goals as goal

pub returns-in_err-add-clause-err : goal.returns-in_err-add-clause-err
returns-in_err-add-clause-err g c = λ failed. name_cut c.args.due.now c.args.name.now _ _ (c.in_err-add.ensures.err refl)

pub returns-clause-ok : goal.returns-clause-ok
returns-clause-ok g c =
    IfOk-weaker c.add-2.result (λ u. IsDue (c.add.new.self ++ codes "\n") c.add-2.new.self (g.O.Sink.put_bytes c.add.new.out) (g.O.Sink.put_bytes c.add-2.new.out)) _
    (λ u then. line_added c.args.due.now c.args.name.now c.add.new.self c.add-2.new.self _ _ _ c.in_ok-add.ensures.ok then) c.add-2.ensures.ok

pub returns-clause-err : goal.returns-clause-err
returns-clause-err g c = λ failed. newline_cut c.args.due.now c.args.name.now c.add.new.self _ _ _ c.in_ok-add.ensures.ok (c.add-2.ensures.err failed)
