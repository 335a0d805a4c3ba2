use Rattle.wf_gen.proofs.Choices.{production_told}
use Rattle.wf_recur.proofs.OneTable.{cycled}
use Rattle.wf_gen.proofs.choice.continuing_production.Goals as goal

pub returns-in-Some : goal.returns-in-Some
returns-in-Some c = production_told c.args.g.grammar.now.core c.args.g.cycles.now c.start-formed.ensures.formed c.args.g.linear (cycled c.args.g.grammar.now.core c.start-formed.ensures.formed c.args.g.linear c.args.g.cycles.now c.args.g.cycled) c.args.m.0 c.requires.in_range _ c.in-Some.ensures

pub returns-in-None : goal.returns-in-None
returns-in-None c = production_told c.args.g.grammar.now.core c.args.g.cycles.now c.start-formed.ensures.formed c.args.g.linear (cycled c.args.g.grammar.now.core c.start-formed.ensures.formed c.args.g.linear c.args.g.cycles.now c.args.g.cycled) c.args.m.0 c.requires.in_range _ c.in-None.ensures
