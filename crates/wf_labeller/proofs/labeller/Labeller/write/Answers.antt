use Rattle.wf_labeller.proofs.Bounds.{items_within}
use Rattle.wf_labeller.proofs.labeller.Labeller.write.Goals as goal

pub returns-in-Ok-clause-bound : goal.returns-in-Ok-clause-bound
returns-in-Ok-clause-bound c events run =
    items_within c.args.self.now c.self.inside.run c.label.new.self c.grammar.result.now c.self.view_is c.grammar.ensures.grammar c.start-formed.ensures.formed c.grammar.ensures.linear c.grammar.ensures.most
    c.in-Ok.ensures.goes_on events c.args.event.now (c.in-Ok.ensures.taken events run)
