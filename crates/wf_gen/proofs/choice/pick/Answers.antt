use Rattle.std.proofs.Common.{◌<◌, length, sym, subst}
use Rattle.wf_gen.proofs.Choices.{picked_composite, production_fits}
use Rattle.wf_gen.proofs.choice.pick.Goals as goal

pub production-production-requires-clause-in_range : goal.production-production-requires-clause-in_range
production-production-requires-clause-in_range c = (picked_composite c.args.g.grammar.now.core c.args.pending.now c.args.d _ c.requires.composite c.requires.some).0

pub production-production-requires-clause-composite : goal.production-production-requires-clause-composite
production-production-requires-clause-composite c = (picked_composite c.args.g.grammar.now.core c.args.pending.now c.args.d _ c.requires.composite c.requires.some).1

pub returns-clause-production : goal.returns-clause-production
returns-clause-production c =
    subst (λ n. n < length c.args.g.grammar.now.core.productions) (sym c.production-production.ensures)
    (production_fits c.args.g.grammar.now.core _ c.stays_on_cycle-stays.result c.args.e (picked_composite c.args.g.grammar.now.core c.args.pending.now c.args.d _ c.requires.composite c.requires.some).1).0
