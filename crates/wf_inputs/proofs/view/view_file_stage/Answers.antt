use Rattle.std.proofs.lemmas.Result.{err_from_is_err_and}
use Rattle.wf_stage.specs.Stages.{OfWhole}
use Rattle.wf_safe.specs.SafeViews.{SafeViewValue}
use Rattle.wf_inputs.specs.ViewTold.{TellsView, RefusesView}
use Rattle.wf_stage.proofs.Reading.{reads_on, reads_stop}
use Rattle.wf_inputs.proofs.view.view_file_stage.Goals as goal

pub returns-in_err-bytes-clause-reads : goal.returns-in_err-bytes-clause-reads
returns-in_err-bytes-clause-reads g c =
    reads_stop g.H.Shelf.at_last (TellsView c.args.accepted.now.grammar.core) (λ (v : SafeViewValue). v.view.core) (OfWhole (RefusesView c.args.accepted.now.grammar.core)) _ _ c.in_err-bytes.field-0.0 c.from_residual.result
    (err_from_is_err_and c.from_residual.result c.from_residual.ensures.1) c.in_err-bytes.ensures.reads

pub returns-clause-reads : goal.returns-clause-reads
returns-clause-reads g c =
    reads_on g.H.Shelf.at_last (TellsView c.args.accepted.now.grammar.core) (λ (v : SafeViewValue). v.view.core) (OfWhole (RefusesView c.args.accepted.now.grammar.core)) _ _ _ c.deref.result.now c.in_ok-bytes.ensures.reads c.deref.ensures.value c.view_of_bytes.result c.view_of_bytes.ensures.ok c.view_of_bytes.ensures.declines
