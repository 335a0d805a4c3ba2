use Rattle.std.proofs.Common.{sym}
use Rattle.std.proofs.lemmas.Result.{err_from_is_err_and}
use Rattle.wf_flat.specs.Table.{events_of}
use Rattle.wf_stage.proofs.Obeying.{obeys_passed, obeys_writing}
use Rattle.wf_inputs.proofs.Taking.{events_stop, events_go, with_grammar}
use Rattle.cmd_make.specs.Does.{ExportsRun, ExportsView}
use Rattle.cmd_make.proofs.export.ExportWordsUnderView.obey_under.Goals as goal

pub returns-in_err-run-clause-obeys : goal.returns-in_err-run-clause-obeys
returns-in_err-run-clause-obeys g c =
    let u = c.args.v.now.view.core in
    obeys_passed _ _ _ _ _ _ c.from_residual.result c.in_err-run.field-0.0 (err_from_is_err_and c.from_residual.result c.from_residual.ensures.1)
    (with_grammar _ (λ f h. ExportsView h.core u (f c.args.self.now.events.now)) _ _ _ _ _ _ _ c.grammar.ensures.grammar
    (events_stop c.grammar.result.now.core _ _ _ _ _ c.in_err-run.ensures.reads))

pub returns-clause-obeys : goal.returns-clause-obeys
returns-clause-obeys g c =
    let u = c.args.v.now.view.core in
    with_grammar _ (λ f h. ExportsView h.core u (f c.args.self.now.events.now)) _ _ _ _ _ _ _ c.grammar.ensures.grammar
    (events_go c.grammar.result.now.core _ _ _ _ _ _ _ _ c.in_ok-run.ensures.reads
    (with_grammar _ (λ f h. ExportsRun h.core u (events_of c.in_ok-run.run')) _ _ _ _ _ _ _ (sym c.grammar.ensures.grammar) (obeys_writing _ _ _ _ _ _ c.put_export.ensures.writes)))
