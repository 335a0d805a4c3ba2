use Rattle.std.proofs.Common.{◌∙◌, ap}
use Rattle.wf_model.specs.Grammar.{Production}
use Rattle.wf_recur.specs.Cycles.{step_of}
use Rattle.wf_run.specs.Growing.{prefix_of}
use Rattle.wf_run.proofs.ChildPrefixes.{child_atomic, child_goes_on, child_leaves}
use Rattle.wf_recur.proofs.OneTable.{cycled}
use Rattle.wf_run.proofs.child.child_prefix.Goals as goal

pub returns-then-not-is_composite-clause-prefix : goal.returns-then-not-is_composite-clause-prefix
returns-then-not-is_composite-clause-prefix c = child_atomic c.args.g.grammar.now.core (step_of c.args.step) (prefix_of c.args.parent) _ _ c.target-m.ensures.target c.is_composite.ensures.test c.if-not-is_composite.true

pub returns-then-is_continuing-clause-prefix : goal.returns-then-is_continuing-clause-prefix
returns-then-is_continuing-clause-prefix c =
    let rule = c.production-rule.ensures in
    let head = c.head.ensures ∙ ap (λ (r : Production). r.head) rule.core in
    child_goes_on c.args.g.grammar.now.core c.args.g.cycles.now (step_of c.args.step) (prefix_of c.args.parent) rule.formed c.args.g.linear (cycled c.args.g.grammar.now.core rule.formed c.args.g.linear c.args.g.cycles.now c.args.g.cycled) c.requires.production
    _ _ c.target-m.ensures.target c.is_composite.ensures.test c.if-not-is_composite.false _ _ head c.is_continuing.ensures _ c.if-is_continuing.true c.raised.ensures.chain

pub returns-clause-prefix : goal.returns-clause-prefix
returns-clause-prefix c =
    let rule = c.production-rule.ensures in
    let head = c.head.ensures ∙ ap (λ (r : Production). r.head) rule.core in
    child_leaves c.args.g.grammar.now.core c.args.g.cycles.now (step_of c.args.step) (prefix_of c.args.parent) rule.formed c.args.g.linear (cycled c.args.g.grammar.now.core rule.formed c.args.g.linear c.args.g.cycles.now c.args.g.cycled) c.requires.production
    _ _ c.target-m.ensures.target c.is_composite.ensures.test c.if-not-is_composite.false _ _ head c.is_continuing.ensures _ _ _ c.if-is_continuing.false (c.alternative.ensures ∙ rule.alternative) c.in_ok-bytes.ensures.bits c.target-m.ensures.in_range c.begun.ensures.chain
