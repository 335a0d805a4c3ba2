use Rattle.std.proofs.lemmas.Result.{err_from_is_err_and}
use Rattle.wf_message.specs.Endings.{end_of}
use Rattle.wf_stage.proofs.Obeying.{stop_is_not_done}
use Rattle.wf_stage.proofs.Writing.{writes_passed}
use Rattle.cmd_share.proofs.ToldViews.{held_two}
use Rattle.cmd_share.proofs.ComparedTexts.{comparison_written, comparison_stops}
use Rattle.cmd_share.proofs.compare.put_comparison.Goals as goal

pub returns-in_err-text-clause-writes : goal.returns-in_err-text-clause-writes
returns-in_err-text-clause-writes g c =
    let h = c.args.fine.now.accepted.grammar.core in
    writes_passed _ _ _ _ c.from_residual.result c.in_err-text.field-0.0 (err_from_is_err_and c.from_residual.result c.from_residual.ensures.1)
    (comparison_stops h c.args.fine.now.view.core c.args.coarse.now.view.core _ (end_of c.in_err-text.field-0.0) (stop_is_not_done c.in_err-text.field-0.0) c.in_err-text.ensures.stops)

pub returns-clause-writes : goal.returns-clause-writes
returns-clause-writes g c =
    let h = c.args.fine.now.accepted.grammar.core in
    comparison_written h c.args.fine.now.view.core c.args.coarse.now.view.core (held_two c.args.fine.now c.args.coarse.now c.grammar-of_fine.ensures.safe c.grammar-of_coarse.ensures.safe c.requires.same) c.deref.result.now _ c.in_ok-text.ensures.told c.deref.ensures.value _ _ _ c.put_text.ensures.writes
