use Rattle.std.proofs.Common.{length, ap, subst, ◌∙◌}
use Rattle.std.proofs.lemmas.Result.{IfOk-weaker}
use Rattle.label_model.specs.RunLabels.{labelled}
use Rattle.wf_spec.specs.Held.{HeldGrammar}
use Rattle.wf_run.specs.Runs.{RunSeen}
use Rattle.wf_labeller.specs.Groups.{bits_of_items}
use Rattle.cmd_make.specs.HeldLabels.{IsDrawnOf}
use Rattle.cmd_make.proofs.RunLabelled.{accepted_by, instances_made}
use Rattle.cmd_make.proofs.labelling.label_run.Goals as goal

pub label_events-requires-clause-accepted : goal.label_events-requires-clause-accepted
label_events-requires-clause-accepted c =
    accepted_by c.args.linear.grammar.now c.new-run.result c.new-labelled.result.run _ c.args.generator.now.events c.new-labelled.ensures.run c.new-run.ensures.grammar c.new-run.ensures.most c.requires.accepted

pub returns-clause-instances : goal.returns-clause-instances
returns-clause-instances c =
    let run = c.label_events.new.run.run in
    let same = c.in_ok-label_events.ensures.grammar ∙ (ap (λ (r : RunSeen). r.grammar) c.new-labelled.ensures.run ∙ c.new-run.ensures.grammar) in
    let all_made = instances_made c.args.linear.grammar.now run c.args.generator.now.events c.in_ok-label_events.ensures.run same in
    IfOk-weaker c.drawn_of.result _ _ (λ d is. is ∙ all_made) c.drawn_of.ensures.instances

pub returns-clause-drawn : goal.returns-clause-drawn
returns-clause-drawn c =
    let same = ap (λ (r : RunSeen). r.grammar) c.new-labelled.ensures.run ∙ c.new-run.ensures.grammar in
    let labels = c.in_ok-label_events.ensures.labels ∙ ap (λ (h : HeldGrammar). bits_of_items (labelled h.core c.args.generator.now.events)) same in
    IfOk-weaker c.drawn_of.result _ _
    (λ d is. subst (λ l. IsDrawnOf l c.args.generator.now.draws d) labels (subst (λ r. IsDrawnOf c.label_events.new.run.labels r d) c.in_ok-label_events.ensures.draws is))
    c.drawn_of.ensures.drawn
