use Rattle.std.proofs.Common.{refl, sym, subst}
use Rattle.wf_run.specs.Runs.{IsRunOf}
use Rattle.wf_labeller.specs.Groups.{Labelled}
use Rattle.wf_labeller.proofs.Bounds.{items_within}
use Rattle.wf_labeller.proofs.labelled_run.LabelledRun.take.Goals as goal

pub returns-clause-bound : goal.returns-clause-bound
returns-clause-bound c events run =
    items_within c.self.inside.run c.self.inside.run c.take_group.new.run c.grammar.result.now refl c.grammar.ensures.grammar c.start-formed.ensures.formed c.grammar.ensures.linear c.grammar.ensures.most
    c.in_ok-take_group.ensures.goes_on events c.args.event.now (c.in_ok-take_group.ensures.taken events (subst (λ (l : Labelled). IsRunOf l.run events) (sym c.self.view_is) run))
