use Rattle.std.proofs.Common.{ap, ◌∙◌, sym, subst}
use Rattle.wf_accept.specs.Accepted.{AcceptedValue}
use Rattle.words_model.specs.Lifting.{lift, HasFewStates}
use Rattle.cmd_words.proofs.lifted.lifted_grammar.Goals as goal

pub lift-requires-clause-ports : goal.lift-requires-clause-ports
lift-requires-clause-ports c =
    subst (HasFewStates c.accepted.result.now.grammar.core) (sym c.states.ensures.states)
    (subst (λ (s : AcceptedValue). HasFewStates s.grammar.core c.args.automaton.now.states) (sym c.accepted.ensures.accepted) c.requires.fits.ports)

pub returns-in-Ok-clause-grammar : goal.returns-in-Ok-clause-grammar
returns-in-Ok-clause-grammar c =
    c.in-Ok.ensures.core
    ∙ (ap (lift c.accepted.result.now.grammar.core) c.states.ensures.states ∙ ap (λ (s : AcceptedValue). lift s.grammar.core c.args.automaton.now.states) c.accepted.ensures.accepted)
