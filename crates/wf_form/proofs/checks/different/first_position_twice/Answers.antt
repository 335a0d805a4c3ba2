use Rattle.std.proofs.Common.{◌≡◌, [], not, sym, ◌∙◌, true≢false}
use Rattle.wf_model.specs.declared.parts.ProdPart.{ProdPart}
use Rattle.wf_model.specs.Lists.{AllDiffer}
use Rattle.wf_model.specs.Faults.{some_twice}
use Rattle.wf_form.specs.Rules.{position_names}
use Rattle.wf_spec.proofs.FirstFaults.{holds_more, fails_at}
use Rattle.wf_form.proofs.Sides.{differ_gives, differ_from}
use Rattle.wf_form.proofs.checks.different.first_position_twice.Goals as goal

pub returns-then-not-differ : goal.returns-then-not-differ
returns-then-not-differ c =
    let p = c.index-productions-k.result in
    let told : c.in_ok-differ.differ ≡ not (some_twice [] (position_names p)) = cc c.in_ok-differ.ensures in
    fails_at (λ (r : ProdPart). AllDiffer (position_names r)) c.args.productions.now c.loop-k.k p c.loop-k.invariant (λ d. true≢false (sym (differ_from (position_names p) c.in_ok-differ.differ told d) ∙ c.if-not-differ.true)) c.index-productions-k.is c.loop-k-test.true

pub loop-k-preserved : goal.loop-k-preserved
loop-k-preserved c =
    let p = c.index-productions-k.result in
    let told : c.in_ok-differ.differ ≡ not (some_twice [] (position_names p)) = cc c.in_ok-differ.ensures in
    holds_more (λ (r : ProdPart). AllDiffer (position_names r)) c.args.productions.now c.loop-k.k p c.loop-k.invariant (differ_gives (position_names p) c.in_ok-differ.differ told c.if-not-differ.false) c.index-productions-k.is
