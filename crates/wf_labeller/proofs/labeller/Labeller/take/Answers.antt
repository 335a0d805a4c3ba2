use Rattle.wf_labeller.proofs.Bounds.{made_within}
use Rattle.wf_labeller.proofs.KeptSoFar.{listed}
use Rattle.wf_labeller.proofs.labeller.Labeller.take.Goals as goal

pub returns-clause-entries : goal.returns-clause-entries
returns-clause-entries c events run = listed _ _ _ c.new-made.ensures (c.in_ok-label.ensures.entries events run)

pub returns-clause-bound : goal.returns-clause-bound
returns-clause-bound c events run =
    made_within c.args.self.now c.self.inside.run c.label.new.self c.grammar.result.now c.self.view_is c.grammar.ensures.grammar c.start-formed.ensures.formed c.grammar.ensures.linear c.grammar.ensures.most
    c.in_ok-label.ensures.goes_on events c.args.event.now (c.in_ok-label.ensures.taken events run) _ (listed _ _ _ c.new-made.ensures (c.in_ok-label.ensures.entries events run))
