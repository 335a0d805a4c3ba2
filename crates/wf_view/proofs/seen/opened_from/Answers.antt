use Rattle.std.proofs.lemmas.Result.{IfOk-weaker}
use Rattle.wf_view.proofs.seen.opened_from.Goals as goal

pub returns : goal.returns
returns c = IfOk-weaker c.modules_made.result _ _ (λ list h. λ k. ((λ i. (c.if-not-expanded.false, (h k).0 i)), λ d. (h k).1 d.1)) c.modules_made.ensures
