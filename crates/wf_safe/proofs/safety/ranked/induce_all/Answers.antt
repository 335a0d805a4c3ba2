use Rattle.std.proofs.Common.{◌≡◌, ◌+◌, subst, arith}
use Rattle.wf_safe.specs.Inducing.{AreInducedBefore}
use Rattle.wf_safe.proofs.Inducing.{all_induced}
use Rattle.wf_safe.proofs.safety.ranked.induce_all.Goals as goal

pub returns : goal.returns
returns c =
    let g = c.args.v.grammar.now.core in
    let all : c.loop-below.below ≡ c.greatest_rank-below-end.result = omega arith in
    all_induced g c.args.v.view.now.core c.args.proper.now c.greatest_rank-below-end.result c.loop-below.deps c.requires.ranking c.greatest_rank-below-end.ensures
    (subst (λ n. AreInducedBefore g c.args.v.view.now.core c.args.proper.now (n + 1) 0 c.loop-below.deps) all c.loop-below.invariant)
