use Rattle.std.proofs.Common.{◌∙◌, cond, sym, ap}
use Rattle.wf_model.specs.Grammar.{inputs_of, outputs_of}
use Rattle.wf_translate.proofs.label.port_count.Goals as goal

pub returns-then-of_outputs : goal.returns-then-of_outputs
returns-then-of_outputs c =
    c.output_count.ensures.count ∙ ap (outputs_of c.args.g.now.core) c.start-start.ensures.start
    ∙ sym (ap (λ b. cond b (outputs_of c.args.g.now.core c.args.g.now.core.start) (inputs_of c.args.g.now.core c.args.g.now.core.start)) c.if-of_outputs.true)

pub returns-else-of_outputs : goal.returns-else-of_outputs
returns-else-of_outputs c =
    c.input_count.ensures.count ∙ ap (inputs_of c.args.g.now.core) c.start-start.ensures.start
    ∙ sym (ap (λ b. cond b (outputs_of c.args.g.now.core c.args.g.now.core.start) (inputs_of c.args.g.now.core c.args.g.now.core.start)) c.if-of_outputs.false)
