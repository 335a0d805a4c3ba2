use Rattle.std.proofs.Common.{arith}
use Rattle.wf_model.proofs.Lists.{at_in, is_at}
use Rattle.wf_form.proofs.versions.versions_from.Goals as goal

pub overflow_cast-part : goal.overflow_cast-part
overflow_cast-part c =
    let h = c.requires _ (at_in _ c.loop-part.part-index c.args.parts.now (is_at c.loop-part.part-index c.args.parts.now (record { modules = 0; productions = 0 }) c.loop-part-test.true)) in omega (arith, h.0)

pub overflow_cast-part-in-loop-part : goal.overflow_cast-part-in-loop-part
overflow_cast-part-in-loop-part c =
    let h = c.requires _ (at_in _ c.loop-part.part-index c.args.parts.now (is_at c.loop-part.part-index c.args.parts.now (record { modules = 0; productions = 0 }) c.loop-part-test.true)) in omega (arith, h.1)
