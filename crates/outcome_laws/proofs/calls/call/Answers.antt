use Rattle.outcome_laws.proofs.GoodCalls.{ended_as, complete}
use Rattle.outcome_laws.proofs.calls.call.Goals as goal

pub returns-clause-as_told : goal.returns-clause-as_told
returns-clause-as_told g c f told written e text outcome =
    ended_as f _ c.run.result _ _ _ _ _ _ _ (rw told at c.run.ensures.ended) (λ is. written (c.run.ensures.write is).0) c.one_outcome_law.ensures e text outcome

pub returns-clause-complete : goal.returns-clause-complete
returns-clause-complete g c f told written good =
    complete f _ c.run.result _ _ _ _ _ _ _ (rw told at c.run.ensures.ended) (λ is. written (c.run.ensures.write is).0) c.good_call_law.ensures good
