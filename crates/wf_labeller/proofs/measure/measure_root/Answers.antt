use Rattle.std.proofs.Common.{List, length, arith, ap, ◌∙◌}
use Rattle.wf_model.specs.Grammar.{Module}
use Rattle.wf_labeller.proofs.RootPorts.{root_read}
use Rattle.wf_labeller.proofs.Measured.{root_measured}
use Rattle.wf_labeller.proofs.measure.measure_root.Goals as goal

pub measure_ports-requires : goal.measure_ports-requires
measure_ports-requires c =
    let r = root_read c.args.g.now.core _ _ _ c.start.ensures.formed c.modules.ensures.modules c.start.ensures.start c.index-modules-start.is in
    omega (arith, r.few_inputs, ap (λ (l : List (List _)). length l) c.inputs-inputs.ensures)

pub measure_ports-requires-2 : goal.measure_ports-requires-2
measure_ports-requires-2 c =
    let r = root_read c.args.g.now.core _ _ _ c.start.ensures.formed c.modules.ensures.modules c.start.ensures.start c.index-modules-start.is in
    omega (arith, r.few_outputs, ap (λ (l : List (List _)). length l) c.outputs-outputs.ensures)

pub returns : goal.returns
returns c =
    let r = root_read c.args.g.now.core _ _ _ c.start.ensures.formed c.modules.ensures.modules c.start.ensures.start c.index-modules-start.is in
    root_measured c.args.g.now.core _ _ _ _ _ (ap (λ (l : List (List _)). length l) c.inputs-inputs.ensures ∙ ap (λ (m : Module). length m.inputs) r.is) (ap (λ (l : List (List _)). length l) c.outputs-outputs.ensures ∙ ap (λ (m : Module). length m.outputs) r.is)
    c.in_ok-first.ensures c.in_ok-second.ensures c.longer.ensures
