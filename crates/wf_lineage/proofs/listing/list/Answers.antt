use Rattle.std.proofs.Common.{length, refl, subst, ◌∙◌}
use Rattle.verdict_model.specs.Verdicts.{IsVerdict}
use Rattle.wf_lineage.proofs.OneListing.{shown_by}
use Rattle.wf_lineage.proofs.ListedCosts.{cost_behind_one}
use Rattle.wf_lineage.proofs.listing.list.Goals as goal

pub returns-in-Hidden1-clause-ok : goal.returns-in-Hidden1-clause-ok
returns-in-Hidden1-clause-ok g c u es y of held of_y y_is =
    (subst (λ v. IsVerdict c.args.vl.now.grammar u y y v) c.in-Hidden1.is (c.decide.ensures.verdict u y y of of_y of_y (c.label.ensures ∙ y_is) (c.label-2.ensures ∙ y_is)), refl, refl)

pub returns-in_err-add_listed-clause-err : goal.returns-in_err-add_listed-clause-err
returns-in_err-add_listed-clause-err g c failed u es y of held of_y y_is = (
  shown_by c.args.vl.now.grammar u y c.decide.result (c.decide.ensures.verdict u y y of of_y of_y (c.label.ensures ∙ y_is) (c.label-2.ensures ∙ y_is)) c.in_default.not-Hidden1,
  c.in_err-add_listed.ensures.err refl u es y of held of_y y_is,
)

pub returns-in_err-add_listed-clause-cost : goal.returns-in_err-add_listed-clause-cost
returns-in_err-add_listed-clause-cost g c most few =
    cost_behind_one c.args.steps.now c.decide.new.steps c.add_listed.new.steps (length c.args.store.now) _ (c.decide.ensures.cost most few) (c.in_err-add_listed.ensures.cost most few)

pub returns-clause-ok : goal.returns-clause-ok
returns-clause-ok g c u es y of held of_y y_is = (
  shown_by c.args.vl.now.grammar u y c.decide.result (c.decide.ensures.verdict u y y of of_y of_y (c.label.ensures ∙ y_is) (c.label-2.ensures ∙ y_is)) c.in_default.not-Hidden1,
  c.in_ok-add_listed.ensures.ok u es y of held of_y y_is,
)

pub returns-clause-cost : goal.returns-clause-cost
returns-clause-cost g c most few =
    cost_behind_one c.args.steps.now c.decide.new.steps c.add_listed.new.steps (length c.args.store.now) _ (c.decide.ensures.cost most few) (c.in_ok-add_listed.ensures.cost most few)

pub returns-clause-err : goal.returns-clause-err
returns-clause-err g c = λ failed. absurd (cc)

pub returns-clause-cause : goal.returns-clause-cause
returns-clause-cause g c = λ failed. absurd (cc)

pub returns-clause-same : goal.returns-clause-same
returns-clause-same g c = c.in_ok-add_listed.ensures.same

pub returns-clause-later : goal.returns-clause-later
returns-clause-later g c = c.in_ok-add_listed.ensures.later

pub returns-in_err-add_listed-clause-later : goal.returns-in_err-add_listed-clause-later
returns-in_err-add_listed-clause-later g c = c.in_err-add_listed.ensures.later

pub returns-in_err-add_listed-clause-cause : goal.returns-in_err-add_listed-clause-cause
returns-in_err-add_listed-clause-cause g c = λ failed. c.in_err-add_listed.ensures.cause refl

pub returns-in-Hidden1-clause-err : goal.returns-in-Hidden1-clause-err
returns-in-Hidden1-clause-err g c = λ failed. absurd (cc)

pub returns-in-Hidden1-clause-cause : goal.returns-in-Hidden1-clause-cause
returns-in-Hidden1-clause-cause g c = λ failed. absurd (cc)

pub returns-in-Hidden1-clause-room : goal.returns-in-Hidden1-clause-room
returns-in-Hidden1-clause-room g c = c.decide.ensures.room

pub returns-in-Hidden1-clause-same : goal.returns-in-Hidden1-clause-same
returns-in-Hidden1-clause-same g c = refl
