use Rattle.std.proofs.Common.{◌≡◌, ◌∙◌, ap, length, get_or, Option, None, List, ℕ, arith}
use Rattle.wf_model.specs.Grammar.{Module}
use Rattle.wf_vlabel.proofs.RowsGroups.{pushed_rows}
use Rattle.wf_spec.proofs.FewPorts.{few_ports}
use Rattle.wf_vlabel.proofs.full.push_rows.Goals as goal

pub overflow_cast-outputs : goal.overflow_cast-outputs
overflow_cast-outputs c =
    let same = c.index-modules-m.is ∙ ap (λ (ms : List Module). get_or ms c.args.m.0 c.index-modules-m.result) c.modules.ensures.modules in
    let few = (few_ports c.args.g.now.core c.args.m.0 c.index-modules-m.result c.modules.ensures.formed c.requires.module_no same).3 in
    let n : length c.outputs-outputs.result.now ≡ length c.index-modules-m.result.outputs = ap length c.outputs-outputs.ensures in
    omega arith

pub push-requires : goal.push-requires
push-requires c =
    let same = c.index-modules-m.is ∙ ap (λ (ms : List Module). get_or ms c.args.m.0 c.index-modules-m.result) c.modules.ensures.modules in
    let ports = few_ports c.args.g.now.core c.args.m.0 c.index-modules-m.result c.modules.ensures.formed c.requires.module_no same in
    (pushed_rows c.args.g.now.core c.args.full.now c.args.m.0 (length c.outputs-outputs.result.now) c.in-Some.rows.now c.modules.ensures.formed c.requires.module_no c.requires.fit
    (c.in-Some.ensures ∙ ap (λ (d : List (Option (List ℕ))). get_or d c.args.m.0 None) c.deps.ensures) (ap length c.outputs-outputs.ensures ∙ ports.2)).0

pub returns-in_ok-number-in-Some-clause-group : goal.returns-in_ok-number-in-Some-clause-group
returns-in_ok-number-in-Some-clause-group c =
    let same = c.index-modules-m.is ∙ ap (λ (ms : List Module). get_or ms c.args.m.0 c.index-modules-m.result) c.modules.ensures.modules in
    let ports = few_ports c.args.g.now.core c.args.m.0 c.index-modules-m.result c.modules.ensures.formed c.requires.module_no same in
    let pushed = (pushed_rows c.args.g.now.core c.args.full.now c.args.m.0 (length c.outputs-outputs.result.now) c.in-Some.rows.now c.modules.ensures.formed c.requires.module_no c.requires.fit
    (c.in-Some.ensures ∙ ap (λ (d : List (Option (List ℕ))). get_or d c.args.m.0 None) c.deps.ensures) (ap length c.outputs-outputs.ensures ∙ ports.2)).1 in
    let number = c.in_ok-number-in-Some.ensures.added.number in
    let total = c.in_ok-number-in-Some.ensures.added.total in
    (omega (arith, number, total), pushed.0, c.in_ok-number-in-Some.ensures.pushed ∙ pushed.1)
