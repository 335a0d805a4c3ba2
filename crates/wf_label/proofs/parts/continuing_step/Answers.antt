use Rattle.std.proofs.Common.{◌∙◌, ap}
use Rattle.std.specs.Prelude.{option_map}
use Rattle.wf_recur.specs.Cycles.{OnSeen}
use Rattle.wf_recur.proofs.OneTable.{cycled}
use Rattle.wf_recur.proofs.Places.{step_told}
use Rattle.wf_label.proofs.parts.continuing_step.Goals as goal

pub returns-in-Some : goal.returns-in-Some
returns-in-Some c = ap (option_map (λ (o : OnSeen). o.step)) c.in-Some.ensures ∙ step_told c.args.g.grammar.now.core c.args.g.cycles.now c.start-formed.ensures.formed c.args.g.linear (cycled c.args.g.grammar.now.core c.start-formed.ensures.formed c.args.g.linear c.args.g.cycles.now c.args.g.cycled) c.args.m.0 c.requires.in_range

pub returns-in-None : goal.returns-in-None
returns-in-None c = ap (option_map (λ (o : OnSeen). o.step)) c.in-None.ensures ∙ step_told c.args.g.grammar.now.core c.args.g.cycles.now c.start-formed.ensures.formed c.args.g.linear (cycled c.args.g.grammar.now.core c.start-formed.ensures.formed c.args.g.linear c.args.g.cycles.now c.args.g.cycled) c.args.m.0 c.requires.in_range
