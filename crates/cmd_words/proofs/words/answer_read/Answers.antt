use Rattle.std.proofs.Common.{refl, sym, subst}
use Rattle.std.specs.Prelude.{codes}
use Rattle.std.proofs.lemmas.Result.{err_from_is_err_and}
use Rattle.wf_stage.specs.Stages.{Declines, OfWhole}
use Rattle.wf_stage.proofs.Obeying.{obeys_passed}
use Rattle.cmd_words.specs.AutoTold.{RefusesLifted}
use Rattle.cmd_words.proofs.LiftedTaking.{lifted_stops}
use Rattle.cmd_words.proofs.words.answer_read.Goals as goal

pub returns-in_err-grammar : goal.returns-in_err-grammar
returns-in_err-grammar g c =
    let h = c.args.v.now.accepted.grammar in
    let u = c.args.v.now.view.core in
    let a = c.args.automaton.now in
    record {
      obeys = obeys_passed _ _ _ _ _ _ c.from_residual.result c.in_err-grammar.field-0.0 (err_from_is_err_and c.from_residual.result c.from_residual.ensures.1)
          (lifted_stops h u a _ _ _ (subst (Declines (codes "auto") (OfWhole (RefusesLifted h.core u) a)) (sym c.in_err-grammar.ensures.memory) tt));
      untouched = λ wants. (refl, refl);
    }

pub returns : goal.returns
returns g c = record { obeys = c.answer_lifted-ended.ensures.obeys; untouched = c.answer_lifted-ended.ensures.untouched }
