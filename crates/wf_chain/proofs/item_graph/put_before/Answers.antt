use Rattle.std.proofs.Common.{set, sym, subst}
use Rattle.std.proofs.lemmas.List.{get_or_read}
use Rattle.wf_chain.specs.ItemGraphs.{AreMadeFrom}
use Rattle.wf_chain.proofs.MadeSteps.{none_before, one_before}
use Rattle.wf_chain.proofs.item_graph.put_before.Goals as goal

pub returns-in_default-clause-made : goal.returns-in_default-clause-made
returns-in_default-clause-made c = none_before c.args.produced.now c.args.k c.args.first.now.items c.args.next.now.items c.requires.made c.in_default.is

pub returns-clause-made : goal.returns-clause-made
returns-clause-made c =
    let first = c.args.first.now.items in
    let next = c.args.next.now.items in
    let q = c.in-Some.port in
    let there = c.requires.output q c.in-Some.is in
    subst (λ n. AreMadeFrom c.args.produced.now c.args.k (set first q.instance c.args.k) (set next c.args.k n)) (sym (get_or_read first q.instance c.index.result.now there c.index.ensures 0))
    (one_before c.args.produced.now c.args.k first next c.requires.made q c.in-Some.is there)
