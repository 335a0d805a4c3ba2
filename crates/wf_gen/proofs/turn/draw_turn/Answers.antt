use Rattle.std.proofs.Common.{sym, subst}
use Rattle.wf_gen.specs.Held.{AreComposite, all_pending}
use Rattle.wf_gen.proofs.turn.draw_turn.Goals as goal

pub pick-turn-requires-clause-composite : goal.pick-turn-requires-clause-composite
pick-turn-requires-clause-composite c = subst (λ xs. AreComposite c.args.g.grammar.now.core (all_pending xs)) (sym c.deref.ensures.value) c.requires.composite
