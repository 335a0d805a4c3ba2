use Rattle.std.proofs.Common.{sym, subst}
use Rattle.std.proofs.lemmas.Result.{IfOk-weaker}
use Rattle.wf_query.specs.Answers.{answer_text}
use Rattle.cmd_ask.specs.Prepared.{PreparedSeen}
use Rattle.cmd_ask.specs.Told.{IsToldBy}
use Rattle.cmd_ask.proofs.answer.PreparedAnswerer.answer.Goals as goal

pub returns-clause-answer : goal.returns-clause-answer
returns-clause-answer c =
    let q = c.args.query.now in
    IfOk-weaker c.answer.result (λ a. IsToldBy c.args.self.now q.first.now q.second.now (answer_text a)) _
    (λ a told k is. subst (λ (p : PreparedSeen). IsToldBy p q.first.now q.second.now (answer_text a)) (sym is) told) c.answer.ensures.told
