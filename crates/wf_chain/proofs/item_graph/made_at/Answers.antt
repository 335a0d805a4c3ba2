use Rattle.std.proofs.Common.{◌≡◌, subst, arith}
use Rattle.wf_chain.specs.ItemGraphs.{AreMadeFrom}
use Rattle.wf_chain.proofs.item_graph.made_at.Goals as goal

pub returns-clause-made : goal.returns-clause-made
returns-clause-made c =
    let l = c.loop-left in
    let past = c.loop-left-test.false in
    let none : l.left ≡ 0 = omega arith in
    subst (λ k. AreMadeFrom c.args.produced.now k l.first.items l.next.items) none l.invariant.made

pub put_before-requires-clause-made : goal.put_before-requires-clause-made
put_before-requires-clause-made c =
    let l = c.loop-left in
    subst (λ k. AreMadeFrom c.args.produced.now k l.first.items l.next.items) (omega (arith, c.loop-left-test.true)) l.invariant.made
