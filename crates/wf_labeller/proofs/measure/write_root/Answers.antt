use Rattle.std.proofs.Common.{List, length, arith, ap, sym, ◌∙◌}
use Rattle.std.proofs.lemmas.Result.{on_ok_weaker}
use Rattle.wf_model.specs.Grammar.{Module}
use Rattle.wf_labeller.proofs.RootPorts.{root_read}
use Rattle.wf_labeller.proofs.Measured.{length-root, input_at, output_at}
use Rattle.wf_labeller.proofs.measure.write_root.Goals as goal

pub overflow_cast-k : goal.overflow_cast-k
overflow_cast-k c =
    let r = root_read c.args.g.now.core _ _ _ c.start.ensures.formed c.modules.ensures.modules c.start.ensures.start c.index-modules-start.is in
    omega (arith, r.few_inputs, ap (λ (l : List (List _)). length l) c.inputs-inputs.ensures, c.if-k-inputs.true)

pub returns-then-k-inputs-clause-ok : goal.returns-then-k-inputs-clause-ok
returns-then-k-inputs-clause-ok c =
    let r = root_read c.args.g.now.core _ _ _ c.start.ensures.formed c.modules.ensures.modules c.start.ensures.start c.index-modules-start.is in
    let inputs = ap (λ (l : List (List _)). length l) c.inputs-inputs.ensures ∙ ap (λ (m : Module). length m.inputs) r.is in
    on_ok_weaker c.write_port.result (λ e. e ∙ sym (input_at c.args.g.now.core c.args.k _ inputs c.if-k-inputs.true)) c.write_port.ensures.ok

pub overflow_cast-k-2 : goal.overflow_cast-k-2
overflow_cast-k-2 c =
    let r = root_read c.args.g.now.core _ _ _ c.start.ensures.formed c.modules.ensures.modules c.start.ensures.start c.index-modules-start.is in
    let inputs = ap (λ (l : List (List _)). length l) c.inputs-inputs.ensures ∙ ap (λ (m : Module). length m.inputs) r.is in
    omega (arith, inputs, r.few_outputs, ap (λ (m : Module). length m.outputs) r.is, c.requires, length-root c.args.g.now.core, c.if-k-inputs.false)

pub returns-clause-ok : goal.returns-clause-ok
returns-clause-ok c =
    let r = root_read c.args.g.now.core _ _ _ c.start.ensures.formed c.modules.ensures.modules c.start.ensures.start c.index-modules-start.is in
    let inputs = ap (λ (l : List (List _)). length l) c.inputs-inputs.ensures ∙ ap (λ (m : Module). length m.inputs) r.is in
    on_ok_weaker c.write_port-2.result (λ e. e ∙ sym (output_at c.args.g.now.core c.args.k _ inputs c.if-k-inputs.false c.requires)) c.write_port-2.ensures.ok
