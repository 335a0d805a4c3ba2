use Rattle.std.proofs.Common.{◌∙◌}
use Rattle.wf_recur.specs.Cycles.{OnSeen, on_of}
use Rattle.wf_recur.proofs.OneTable.{cycled}
use Rattle.wf_recur.proofs.Places.{step_told}
use Rattle.wf_translate.proofs.Options.{some_mapped}
use Rattle.wf_translate.proofs.cycle.is_on_cycle.Goals as goal

pub returns : goal.returns
returns c =
    let g = c.args.g.grammar.now.core in
    let formed = c.start-formed.ensures.formed in
    let table = cycled g formed c.args.g.linear c.args.g.cycles.now c.args.g.cycled in
    c.is_some.ensures ∙ some_mapped (λ (o : OnSeen). o.step) on_of c.on.result c.on.ensures (step_told g c.args.g.cycles.now formed c.args.g.linear table c.args.m.0 c.requires.in_range)
