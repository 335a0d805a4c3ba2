use Rattle.std.proofs.lemmas.Result.{err_from_is_err_and}
use Rattle.wf_io.specs.Lines.{lines_in}
use Rattle.wf_message.specs.Endings.{end_of}
use Rattle.wf_stage.proofs.Obeying.{obeys_passed, stop_is_not_done, obeys_put, obeys_put_stop}
use Rattle.cmd_ingest.specs.Ingested.{file_head}
use Rattle.cmd_ingest.proofs.HeadFirst.{events_begin_head}
use Rattle.cmd_ingest.proofs.ingest.LabelledOverSpec.obey_over.Goals as goal

pub returns-in_err-put_head-clause-obeys : goal.returns-in_err-put_head-clause-obeys
returns-in_err-put_head-clause-obeys g c =
    let h = c.args.accepted.now.grammar.core in
    let d = c.in_err-put_head.field-0.0 in
    obeys_passed _ _ _ _ _ _ c.from_residual.result d (err_from_is_err_and c.from_residual.result c.from_residual.ensures.1)
    (obeys_put_stop (file_head h) _ (λ f. events_begin_head h (lines_in (f c.args.self.now.events.now))) _ _ _ (end_of d) (stop_is_not_done d) c.in_err-put_head.ensures.writes)

pub returns-clause-obeys : goal.returns-clause-obeys
returns-clause-obeys g c = obeys_put (file_head c.args.accepted.now.grammar.core) _ _ _ _ _ _ _ c.in_ok-put_head.ensures.writes c.label_events.ensures.obeys
