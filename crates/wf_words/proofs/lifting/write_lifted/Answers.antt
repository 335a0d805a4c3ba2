use Rattle.std.proofs.Common.{◌+◌, ◌++◌, ap, ◌∙◌, arith}
use Rattle.bit_pack.specs.Gamma.{gamma}
use Rattle.words_model.specs.Lifting.{in_state}
use Rattle.wf_words.proofs.LiftedBits.{held_within, packed_front}
use Rattle.wf_words.proofs.lifting.write_lifted.Goals as goal

pub restart-requires-clause-inside : goal.restart-requires-clause-inside
restart-requires-clause-inside c = omega (arith, held_within c.args.label.now c.bytes.result.now c.bytes.ensures.packed, c.requires.inside)

pub returns-clause-bits : goal.returns-clause-bits
returns-clause-bits c =
    c.gamma.ensures.bits ∙ ap (λ z. z ++ gamma (in_state c.args.states c.args.state c.args.last.number + 1))
    (c.restart.ensures.bits ∙ packed_front c.args.label.now c.bytes.result.now c.args.last.at c.bytes.ensures.packed c.requires.inside)
