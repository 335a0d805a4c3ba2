use Rattle.std.proofs.Common.{◌<◌, ◌≤◌, ◌∙◌, ap, sym, subst, length, get_or}
use Rattle.std.proofs.lemmas.Bool.{ltb-true, ltb-false}
use Rattle.words_model.specs.Automata.{Automaton, next_state}
use Rattle.wf_automaton.proofs.Leading.{next_read, next_past}
use Rattle.wf_automaton.proofs.automaton.Automaton.next.Goals as goal

pub returns-in-Some : goal.returns-in-Some
returns-in-Some c =
    let place = c.place_in.result in
    let slot = c.in-Some.t.now in
    let below = subst (λ (a : Automaton). c.args.s < a.states) (sym c.self.view_is) c.requires in
    c.unwrap_or.ensures
    ∙ (next_read c.self.inside.states c.self.inside.moves c.self.inside.table.items c.self.invariant.leading c.args.s c.args.m.0 place below c.place_in.ensures slot
    (c.in-Some.ensures.lookup.1 ∙ ap (λ t. get_or t place slot) c.deref.ensures.value)
    (subst (λ t. place < length t) c.deref.ensures.value (ltb-true place (length c.deref.result.now) (sym c.in-Some.ensures.lookup.0)))
    ∙ ap (λ a. next_state a c.args.s c.args.m.0) c.self.view_is)

pub returns-in-None : goal.returns-in-None
returns-in-None c =
    let place = c.place_in.result in
    let below = subst (λ (a : Automaton). c.args.s < a.states) (sym c.self.view_is) c.requires in
    next_past c.self.inside.states c.self.inside.moves c.self.inside.table.items c.self.invariant.leading c.args.s c.args.m.0 place below c.place_in.ensures
    (subst (λ t. length t ≤ place) c.deref.ensures.value (ltb-false place (length c.deref.result.now) (sym c.in-None.ensures.lookup.0)))
    ∙ ap (λ a. next_state a c.args.s c.args.m.0) c.self.view_is
