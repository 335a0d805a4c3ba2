use Rattle.std.proofs.Common.{arith, ◌∙◌}
use Rattle.wf_run.proofs.Packed.{spelled}
use Rattle.wf_run.proofs.child.spelled.Goals as goal

pub returns-clause-whole : goal.returns-clause-whole
returns-clause-whole c = (spelled c.in_ok-bits.bits c.in_ok-placed.placed.now c.length.result (omega (arith, c.length.ensures, c.length.type_inv)) (c.in_ok-placed.ensures ∙ c.bytes.ensures.packed) c.length.ensures).1
