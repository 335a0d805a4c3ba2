use Rattle.std.proofs.Common.{◌∙◌, ◌++◌, ◌+◌, take, ap}
use Rattle.bit_pack.specs.Gamma.{gamma}
use Rattle.words_model.specs.Lifting.{in_state}
use Rattle.wf_words.proofs.LiftedBits.{lifted_bits, lifted_label_bits}
use Rattle.wf_words.proofs.lifting.lift_label.Goals as goal

pub returns-clause-bits : goal.returns-clause-bits
returns-clause-bits c =
    let last = c.last_part-last.result in
    let is = c.finish.ensures ∙ (c.write_lifted.ensures.bits ∙ ap (λ k. take last.at c.args.x ++ gamma (in_state k c.args.state last.number + 1)) c.states.ensures.states) in
    lifted_bits c.args.g.grammar.now.core c.args.a.now.states c.args.state c.args.x c.finish.result last.at last.number c.last_part-last.ensures.part is

pub returns-clause-label : goal.returns-clause-label
returns-clause-label c =
    let last = c.last_part-last.result in
    let is = c.finish.ensures ∙ (c.write_lifted.ensures.bits ∙ ap (λ k. take last.at c.args.x ++ gamma (in_state k c.args.state last.number + 1)) c.states.ensures.states) in
    lifted_label_bits c.args.g.grammar.now.core c.args.a.now.states c.args.state c.args.x c.finish.result c.requires.state c.requires.label
    (lifted_bits c.args.g.grammar.now.core c.args.a.now.states c.args.state c.args.x c.finish.result last.at last.number c.last_part-last.ensures.part is)
