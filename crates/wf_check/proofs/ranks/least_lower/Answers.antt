use Rattle.std.proofs.Common.{◌<◌, ◌∙◌, below_more, sym, subst, true≢false}
use Rattle.wf_model.specs.Grammar.{Production}
use Rattle.wf_model.specs.Lists.{IsIn}
use Rattle.wf_spec.specs.Bodies.{modules_at}
use Rattle.wf_spec.proofs.Heads.{headed_at}
use Rattle.wf_check.proofs.Lower.{lower_told, none_found, least_found}
use Rattle.wf_check.proofs.ranks.least_lower.Goals as goal

pub production-requires : goal.production-requires
production-requires c = (headed_at c.args.g.now.core c.args.m.0 c.alternatives-p-items.result.now c.loop-p.p-index _ c.alternatives-p-items.ensures c.loop-p-test.true).0

pub is_lower-requires : goal.is_lower-requires
is_lower-requires c = λ k i.
    let g = c.args.g.now.core in
    let h = headed_at g c.args.m.0 c.alternatives-p-items.result.now c.loop-p.p-index _ c.alternatives-p-items.ensures c.loop-p-test.true in
    subst (λ n. k < n) (sym c.requires.one_each) ((c.production.ensures.formed.bodies _ h.0).modules k (subst (λ (r : Production). IsIn k (modules_at r.positions)) c.production.ensures.core i))

pub returns-then-is_lower : goal.returns-then-is_lower
returns-then-is_lower c =
    let g = c.args.g.now.core in
    let ps = c.alternatives-p-items.result.now in
    let h = headed_at g c.args.m.0 ps c.loop-p.p-index _ c.alternatives-p-items.ensures c.loop-p-test.true in (
      (lower_told g c.args.ranks.now c.args.n c.args.m.0 _ c.production.result.now.core c.is_lower.result h c.production.ensures.core c.is_lower.ensures).0 c.if-is_lower.true,
      least_found g c.args.ranks.now c.args.n c.args.m.0 ps c.loop-p.p-index c.alternatives-p-items.ensures c.loop-p-test.true c.loop-p.invariant,
    )

pub loop-p-preserved : goal.loop-p-preserved
loop-p-preserved c =
    let g = c.args.g.now.core in
    let h = headed_at g c.args.m.0 c.alternatives-p-items.result.now c.loop-p.p-index _ c.alternatives-p-items.ensures c.loop-p-test.true in
    below_more _ _ c.loop-p.invariant
    (λ l. true≢false (sym ((lower_told g c.args.ranks.now c.args.n c.args.m.0 _ c.production.result.now.core c.is_lower.result h c.production.ensures.core c.is_lower.ensures).1 l) ∙ c.if-is_lower.false))

pub returns : goal.returns
returns c = none_found c.args.g.now.core c.args.ranks.now c.args.n c.args.m.0 c.alternatives-p-items.result.now c.loop-p.p-index c.alternatives-p-items.ensures c.loop-p-test.false c.loop-p.invariant
