use Rattle.std.proofs.Common.{◌∙◌, List, ap, get_or}
use Rattle.wf_model.specs.Grammar.{Module}
use Rattle.wf_spec.proofs.FewPorts.{few_ports}
use Rattle.wf_body.proofs.standing.output_count.Goals as goal

pub returns-clause-few : goal.returns-clause-few
returns-clause-few c =
    let same = c.index-modules-m.is ∙ ap (λ (ms : List Module). get_or ms c.args.m.0 c.index-modules-m.result) c.modules.ensures.modules in
    rw c.outputs.ensures ((few_ports c.args.g.now.core c.args.m.0 c.index-modules-m.result c.modules.ensures.formed c.requires same).3)
