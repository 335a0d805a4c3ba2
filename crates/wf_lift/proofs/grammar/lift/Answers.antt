use Rattle.std.proofs.Common.{ap, ◌∙◌}
use Rattle.wf_spec.specs.Held.{HeldGrammar}
use Rattle.words_model.specs.Lifting.{lift}
use Rattle.wf_lift.proofs.LiftedAccepted.{lifted_proper, lifted_linear, lifted_ranking, lifted_cycles}
use Rattle.wf_lift.proofs.grammar.lift.Goals as goal

pub accept_known-requires-clause-proper : goal.accept_known-requires-clause-proper
accept_known-requires-clause-proper c =
    let is = c.in_ok-grammar.ensures.core ∙ ap (λ (h : HeldGrammar). lift h.core c.args.states) c.grammar-g.ensures.grammar in
    lifted_proper c.args.accepted.now c.grammar-g.ensures.accepted c.args.states c.requires.some c.requires.few c.requires.ports c.in_ok-grammar.grammar is

pub accept_known-requires-clause-linear : goal.accept_known-requires-clause-linear
accept_known-requires-clause-linear c =
    let is = c.in_ok-grammar.ensures.core ∙ ap (λ (h : HeldGrammar). lift h.core c.args.states) c.grammar-g.ensures.grammar in
    lifted_linear c.args.accepted.now c.grammar-g.ensures.accepted c.args.states c.requires.some c.requires.few c.requires.ports c.in_ok-grammar.grammar is

pub returns-clause-ranking : goal.returns-clause-ranking
returns-clause-ranking c =
    let is = c.in_ok-grammar.ensures.core ∙ ap (λ (h : HeldGrammar). lift h.core c.args.states) c.grammar-g.ensures.grammar in
    lifted_ranking c.args.accepted.now c.grammar-g.ensures.accepted c.args.states c.requires.some c.requires.few c.requires.ports c.in_ok-grammar.grammar is
    c.in_ok-lifted.lifted c.in_ok-lifted.ensures c.grammar-known.ensures.accepted

pub returns-clause-cycles : goal.returns-clause-cycles
returns-clause-cycles c =
    let is = c.in_ok-grammar.ensures.core ∙ ap (λ (h : HeldGrammar). lift h.core c.args.states) c.grammar-g.ensures.grammar in
    lifted_cycles c.args.accepted.now c.grammar-g.ensures.accepted c.args.states c.requires.some c.requires.few c.requires.ports c.in_ok-grammar.grammar is
    c.in_ok-lifted.lifted c.in_ok-lifted.ensures c.grammar-known.ensures.accepted
