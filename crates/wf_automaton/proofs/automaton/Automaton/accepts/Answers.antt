use Rattle.std.proofs.Common.{◌↔◌, ◌<◌, ◌≤◌, ◌∙◌, nat_lt, subst}
use Rattle.std.specs.Prelude.{IsTrue}
use Rattle.std.proofs.lemmas.Bool.{le-ltb}
use Rattle.wf_model.specs.Lists.{IsIn}
use Rattle.words_model.specs.Automata.{Automaton}
use Rattle.wf_automaton.proofs.Flags.{read_tells, past_tells}
use Rattle.wf_automaton.proofs.automaton.Automaton.accepts.Goals as goal

pub returns-then-s-len : goal.returns-then-s-len
returns-then-s-len c =
    subst (λ (a : Automaton). IsTrue c.index.result.now ↔ IsIn c.args.s a.accept) c.self.view_is
    (read_tells _ c.self.inside.flags.items c.self.invariant.accepting c.args.s c.index.result.now c.index.ensures (subst (λ n. c.args.s < n) (c.len.ensures ∙ c.self.inside.flags.ok.0) c.if-s-len.true))

pub returns-else-s-len : goal.returns-else-s-len
returns-else-s-len c =
    subst (λ (a : Automaton). IsTrue (nat_lt c.args.s c.len.result) ↔ IsIn c.args.s a.accept) c.self.view_is
    (past_tells _ c.self.inside.flags.items c.self.invariant.accepting c.args.s (nat_lt c.args.s c.len.result) (le-ltb c.args.s c.len.result c.if-s-len.false) (subst (λ n. n ≤ c.args.s) (c.len.ensures ∙ c.self.inside.flags.ok.0) c.if-s-len.false))
