use Rattle.std.proofs.Common.{IfOk, IfErr, List, subst}
use Rattle.std.proofs.lemmas.Result.{IfOk-weaker, IfErr-weaker}
use Rattle.package_model.specs.Packages.{LoopEntry}
use Rattle.package_model.specs.Loops.{AreGoodLoops, AreLoopsOf}
use Rattle.wf_loops.specs.Looped.{LoopedValue, loop_in}
use Rattle.package_file.specs.Packed.{IsBadUnless}
use Rattle.package_file.proofs.ReadParts.{bad_more}
use Rattle.package_file.proofs.reading.package_of_accepted.Goals as goal

pub returns-in-Ok-clause-good : goal.returns-in-Ok-clause-good
returns-in-Ok-clause-good c =
    IfOk-weaker c.package_of_entries.result _ _ (λ _ good. (c.in-Ok.ensures.safe, good))
    (subst (λ (es : List LoopEntry). IfOk c.package_of_entries.result (λ _. AreGoodLoops c.args.accepted.grammar.core es)) c.in-Ok.ensures.entries c.package_of_entries.ensures.good)

pub returns-in-Ok-clause-loops : goal.returns-in-Ok-clause-loops
returns-in-Ok-clause-loops c =
    subst (λ (es : List LoopEntry). IfOk c.package_of_entries.result (λ (p : LoopedValue). AreLoopsOf c.args.accepted.grammar.core es (loop_in p.steps)))
    c.in-Ok.ensures.entries c.package_of_entries.ensures.loops

pub returns-in-Ok-clause-refused : goal.returns-in-Ok-clause-refused
returns-in-Ok-clause-refused c =
    IfErr-weaker c.package_of_entries.result _ _ (λ f. bad_more _ _ f (λ good. good.1))
    (subst (λ (es : List LoopEntry). IfErr c.package_of_entries.result (IsBadUnless (AreGoodLoops c.args.accepted.grammar.core es))) c.in-Ok.ensures.entries c.package_of_entries.ensures.refused)

pub returns-in-Err : goal.returns-in-Err
returns-in-Err c = record { accepted = tt; good = tt; loops = tt; refused = c.in-Err.ensures.refused }
