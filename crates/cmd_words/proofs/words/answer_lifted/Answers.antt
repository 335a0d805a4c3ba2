use Rattle.std.proofs.Common.{refl}
use Rattle.std.proofs.lemmas.Result.{err_from_is_err_and}
use Rattle.wf_stage.proofs.Obeying.{obeys_passed}
use Rattle.cmd_words.proofs.LiftedTaking.{lifted_stops, lifted_goes}
use Rattle.cmd_words.proofs.words.answer_lifted.Goals as goal

pub returns-in_err-lifted : goal.returns-in_err-lifted
returns-in_err-lifted g c =
    let v = c.args.v.now in
    record {
      obeys = obeys_passed _ _ _ _ _ _ c.from_residual.result c.in_err-lifted.field-0.0 (err_from_is_err_and c.from_residual.result c.from_residual.ensures.1)
          (lifted_stops v.accepted.grammar v.view.core c.args.automaton.now _ _ _ c.in_err-lifted.ensures.declines);
      untouched = λ wants. (refl, refl);
    }

pub returns : goal.returns
returns g c =
    let v = c.args.v.now in
    record {
      obeys = lifted_goes v.accepted.grammar v.view.core c.args.automaton.now _ _ _ _ _ c.in_ok-lifted.ensures.lifted.safe c.answer_labels-ended.ensures.obeys;
      untouched = c.answer_labels-ended.ensures.untouched;
    }
