use Rattle.std.proofs.Common.{sym, subst}
use Rattle.wf_accept.specs.Accepted.{AcceptedValue}
use Rattle.package_model.specs.Loops.{AreLoopsOf}
use Rattle.wf_loops.specs.Looped.{LoopedValue, loop_in}
use Rattle.package_file.specs.Packed.{IsSafeByDefault}
use Rattle.package_file.proofs.reading.package_of_safe.Goals as goal

pub of_looped-requires : goal.of_looped-requires
of_looped-requires c = subst (λ (b : AcceptedValue). IsSafeByDefault b.grammar.core) (sym c.in-Ok.ensures.accepted) c.requires

pub returns-in-Ok-clause-loops : goal.returns-in-Ok-clause-loops
returns-in-Ok-clause-loops c =
    subst (λ (l : LoopedValue). AreLoopsOf c.args.accepted.grammar.core c.args.entries.now (loop_in l.steps)) (sym c.of_looped.ensures) c.in-Ok.ensures.loops
