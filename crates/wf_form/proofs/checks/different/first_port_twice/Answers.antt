use Rattle.std.proofs.Common.{◌≡◌, ◌++◌, [], not, sym, ◌∙◌, true≢false}
use Rattle.wf_model.specs.Faults.{some_twice}
use Rattle.wf_form.specs.Rules.{HasDifferentPorts}
use Rattle.wf_spec.proofs.FirstFaults.{holds_more, fails_at}
use Rattle.wf_form.proofs.Sides.{differ_gives, differ_from}
use Rattle.wf_form.proofs.checks.different.first_port_twice.Goals as goal

pub returns-then-not-differ : goal.returns-then-not-differ
returns-then-not-differ c =
    let m = c.index-modules-k.result in
    let told : c.in_ok-differ.differ ≡ not (some_twice [] (m.inputs ++ m.outputs)) = cc c.in_ok-differ.ensures in
    fails_at HasDifferentPorts c.args.modules.now c.loop-k.k m c.loop-k.invariant (λ d. true≢false (sym (differ_from (m.inputs ++ m.outputs) c.in_ok-differ.differ told d) ∙ c.if-not-differ.true)) c.index-modules-k.is c.loop-k-test.true

pub loop-k-preserved : goal.loop-k-preserved
loop-k-preserved c =
    let m = c.index-modules-k.result in
    let told : c.in_ok-differ.differ ≡ not (some_twice [] (m.inputs ++ m.outputs)) = cc c.in_ok-differ.ensures in
    holds_more HasDifferentPorts c.args.modules.now c.loop-k.k m c.loop-k.invariant (differ_gives (m.inputs ++ m.outputs) c.in_ok-differ.differ told c.if-not-differ.false) c.index-modules-k.is
