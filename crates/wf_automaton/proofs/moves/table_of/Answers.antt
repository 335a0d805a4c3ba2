use Rattle.std.proofs.Common.{◌<◌, ◌∙◌, sym, subst}
use Rattle.words_model.specs.Lifting.{in_state}
use Rattle.wf_automaton.proofs.Leading.{places_within}
use Rattle.wf_automaton.proofs.moves.table_of.Goals as goal

pub enter_moves-requires-clause-places : goal.enter_moves-requires-clause-places
enter_moves-requires-clause-places c = λ v h.
    subst (λ n. in_state c.args.states v.from v.module_no < n) (sym (c.deref_mut.ensures.len ∙ c.in_ok-table.ensures.len)) (places_within c.args.states c.args.modules c.args.moves.now c.requires.below v h)
