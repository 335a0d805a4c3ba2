use Rattle.std.proofs.Common.{sym, subst}
use Rattle.wf_model.specs.Grammar.{Grammar}
use Rattle.label_file.specs.Stored.{AreHeldOf}
use Rattle.label_caller.specs.Opened.{DeciderSeen, IsOpenedFrom}
use Rattle.label_caller.specs.Answers.{Says}
use Rattle.label_caller.proofs.SaidAnswers.{answer_says}
use Rattle.label_caller.proofs.decider.Decider.decide.Goals as goal

pub returns-clause-says : goal.returns-clause-says
returns-clause-says c h u entries from =
    let opened = subst (λ (d : DeciderSeen). IsOpenedFrom d h u entries) (sym c.self.view_is) from in
    subst (λ (x : Grammar). Says x u entries c.args.first.now c.args.second.now c.answer_counted.result) opened.grammar
    (answer_says c.self.inside.label u c.grammar-grammar.ensures.label opened.view entries c.args.first.now c.args.second.now c.answer_counted.result
    (c.answer_counted.ensures.answer u entries opened.view (subst (λ (x : Grammar). AreHeldOf x entries c.self.inside.store) (sym opened.grammar) opened.held)))
