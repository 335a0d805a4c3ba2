use Rattle.std.proofs.Common.{◌∙◌, List, ap, get_or, length, arith}
use Rattle.wf_model.specs.Grammar.{Module}
use Rattle.wf_spec.proofs.FewPorts.{few_ports}
use Rattle.wf_spec.proofs.grammar.Grammar.input_count.Goals as goal

pub overflow_cast-result : goal.overflow_cast-result
overflow_cast-result c =
    let same = c.index-modules-m.is ∙ ap (λ (ms : List Module). get_or ms c.args.m.0 c.index-modules-m.result) c.modules.ensures.modules in
    let few = (few_ports c.args.self.now.core c.args.m.0 c.index-modules-m.result c.modules.ensures.formed c.requires same).1 in
    let is = ap length c.inputs.ensures in
    omega arith

pub returns-clause-few : goal.returns-clause-few
returns-clause-few c =
    let same = c.index-modules-m.is ∙ ap (λ (ms : List Module). get_or ms c.args.m.0 c.index-modules-m.result) c.modules.ensures.modules in
    rw c.inputs.ensures ((few_ports c.args.self.now.core c.args.m.0 c.index-modules-m.result c.modules.ensures.formed c.requires same).1)
