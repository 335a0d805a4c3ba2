use Rattle.std.proofs.Common.{◌≡◌, List, length, ap, subst, ◌∙◌, arith}
use Rattle.wf_model.specs.Grammar.{Module}
use Rattle.wf_safe.specs.Inducing.{AreInducedBefore}
use Rattle.wf_safe.proofs.Inducing.{next_rank}
use Rattle.wf_safe.proofs.safety.ranked.induce_rank.Goals as goal

pub returns : goal.returns
returns c =
    let g = c.args.v.grammar.now.core in
    let all : c.loop-m.m ≡ length c.modules-m-end.result.now = omega arith in
    let whole = all ∙ ap (λ (ms : List Module). length ms) c.modules-m-end.ensures.modules in
    next_rank g c.args.v.view.now.core c.args.proper.now c.args.rank c.loop-m.deps c.modules-m-end.ensures.formed
    (subst (λ k. AreInducedBefore g c.args.v.view.now.core c.args.proper.now c.args.rank k c.loop-m.deps) whole c.loop-m.invariant)
