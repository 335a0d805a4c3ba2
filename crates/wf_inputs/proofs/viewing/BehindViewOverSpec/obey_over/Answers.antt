use Rattle.std.proofs.Common.{ap}
use Rattle.wf_accept.specs.Accepted.{AcceptedValue}
use Rattle.wf_inputs.proofs.Taking.{view_stops, view_goes, with_grammar}
use Rattle.wf_inputs.proofs.viewing.BehindViewOverSpec.obey_over.Goals as goal

pub returns-in-Ok-clause-obeys : goal.returns-in-Ok-clause-obeys
returns-in-Ok-clause-obeys g c =
    view_goes c.args.accepted.now.grammar.core _ _ _ _ _ _ _ _ c.in-Ok.ensures.reads
    (with_grammar _ (λ f x. g.R.UnderView.does c.args.self.now.rest.now f x c.in-Ok.safe.view.core) _ _ _ _ _ _ _ (ap (λ (a : AcceptedValue). a.grammar) c.in-Ok.ensures.accepted) c.obey_under.ensures.obeys)

pub returns-in-Err-clause-obeys : goal.returns-in-Err-clause-obeys
returns-in-Err-clause-obeys g c = view_stops c.args.accepted.now.grammar.core _ _ _ _ _ c.in-Err.ensures.reads
