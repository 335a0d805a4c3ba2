use Rattle.std.proofs.Common.{IfOk, IfErr, List, subst}
use Rattle.package_model.specs.Packages.{LoopEntry}
use Rattle.package_model.specs.Loops.{AreGoodLoops, AreLoopsOf}
use Rattle.wf_loops.specs.Looped.{LoopedValue, loop_in}
use Rattle.package_file.specs.Packed.{IsBadUnless}
use Rattle.package_file.proofs.reading.package_of_entries.Goals as goal

pub returns-clause-good : goal.returns-clause-good
returns-clause-good c = subst (λ (es : List LoopEntry). IfOk c.package_of_safe.result (λ _. AreGoodLoops c.args.accepted.grammar.core es)) c.deref.ensures.value c.package_of_safe.ensures.good

pub returns-clause-loops : goal.returns-clause-loops
returns-clause-loops c =
    subst (λ (es : List LoopEntry). IfOk c.package_of_safe.result (λ (p : LoopedValue). AreLoopsOf c.args.accepted.grammar.core es (loop_in p.steps))) c.deref.ensures.value c.package_of_safe.ensures.loops

pub returns-clause-refused : goal.returns-clause-refused
returns-clause-refused c = subst (λ (es : List LoopEntry). IfErr c.package_of_safe.result (IsBadUnless (AreGoodLoops c.args.accepted.grammar.core es))) c.deref.ensures.value c.package_of_safe.ensures.refused
