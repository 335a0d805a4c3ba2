use Rattle.std.proofs.Common.{◌++◌, refl}
use Rattle.std.specs.Prelude.{codes}
use Rattle.std.proofs.lemmas.Result.{IfOk-weaker}
use Rattle.wf_lines.specs.Taking.{IsDue}
use Rattle.wf_lineage.proofs.EntryLines.{line_due, line_cut, no_line}
use Rattle.wf_lineage.proofs.entry.add_entry.Goals as goal

pub returns-in_default-clause-ok : goal.returns-in_default-clause-ok
returns-in_default-clause-ok g c = no_line c.args.vl.now c.args.direction c.args.of.now.bits c.args.name.now c.args.label c.requires.label c.verdict_on-verdict.result c.verdict_on-verdict.ensures.verdict c.args.due.now _ _ c.in_default.not-Yes refl

pub returns-in_default-clause-err : goal.returns-in_default-clause-err
returns-in_default-clause-err g c = λ failed. absurd (cc)

pub returns-in-Yes-clause-ok : goal.returns-in-Yes-clause-ok
returns-in-Yes-clause-ok g c =
    IfOk-weaker c.add_line.result (λ u. IsDue (c.args.due.now ++ (c.args.name.now ++ codes "\n")) c.add_line.new.due (g.O.Sink.put_bytes c.args.out.now) (g.O.Sink.put_bytes c.add_line.new.out)) _
    (λ u is. line_due c.args.vl.now c.args.direction c.args.of.now.bits c.args.name.now c.args.label c.requires.label c.verdict_on-verdict.result c.verdict_on-verdict.ensures.verdict c.args.due.now _ _ c.in-Yes.is c.add_line.new.due is) c.add_line.ensures.ok

pub returns-in-Yes-clause-err : goal.returns-in-Yes-clause-err
returns-in-Yes-clause-err g c = λ failed.
    line_cut c.args.vl.now c.args.direction c.args.of.now.bits c.args.name.now c.args.label c.requires.label c.verdict_on-verdict.result c.verdict_on-verdict.ensures.verdict c.args.due.now _ _ c.in-Yes.is (c.add_line.ensures.err failed)

pub returns-in-Yes-clause-room : goal.returns-in-Yes-clause-room
returns-in-Yes-clause-room g c = c.verdict_on-verdict.ensures.room

pub returns-in-Yes-clause-cost : goal.returns-in-Yes-clause-cost
returns-in-Yes-clause-cost g c = c.verdict_on-verdict.ensures.cost

pub returns-in-Yes-clause-same : goal.returns-in-Yes-clause-same
returns-in-Yes-clause-same g c = c.add_line.ensures.same

pub returns-in-Yes-clause-later : goal.returns-in-Yes-clause-later
returns-in-Yes-clause-later g c = c.add_line.ensures.later

pub returns-in-Yes-clause-cause : goal.returns-in-Yes-clause-cause
returns-in-Yes-clause-cause g c = c.add_line.ensures.cause
