use Rattle.wf_message.specs.Endings.{end_after}
use Rattle.wf_asking.proofs.AnsweredLines.{queries_put}
use Rattle.wf_asking.proofs.NoMemoryOfLines.{untouched_so}
use Rattle.wf_asking.proofs.stage.queries_stage.Goals as goal

pub returns : goal.returns
returns g c = record {
  obeys = λ k known one.
      let a = c.answer_lines.ensures in
      queries_put _ _ _ _ _ _ _ _ (g.A.Answerer.words k) _ _ _ _ c.answer_lines.result (λ f told. a.put f told k known one) a.same a.put_same a.cause a.files a.once a.later a.put_later _ c.queries_end.ensures;
  untouched = λ none wants. untouched_so _ _ _ _ _ _ c.answer_lines.result (end_after c.queries_end.result) c.queries_end.ensures wants (c.answer_lines.ensures.untouched none) c.answer_lines.ensures.cause;
}
