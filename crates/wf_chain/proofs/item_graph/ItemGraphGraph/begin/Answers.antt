use Rattle.std.proofs.Common.{◌≡◌, ◌<◌, get_or, length, sym, subst}
use Rattle.wf_chain.specs.ItemGraphs.{led_to, led_behind}
use Rattle.wf_chain.proofs.ItemGraphs.{is_within}
use Rattle.wf_chain.proofs.MadeSteps.{led_first}
use Rattle.wf_chain.proofs.item_graph.ItemGraphGraph.begin.Goals as goal

pub bounds-self-input : goal.bounds-self-input
bounds-self-input c =
    let g = c.args.self.now in
    let w = is_within (length g.run.now.run.instances) g.consumed.now g.produced.now g.first.now g.next.now g.within in
    subst (λ n. c.in-Some.input.instance < n) (sym w.count) (w.inputs c.args.v c.in-Some.input c.in-Some.is)

pub returns : goal.returns
returns c =
    let g = c.args.self.now in
    let v = g.run.now in
    let p = c.in-Some.input in
    let w = is_within (length v.run.instances) g.consumed.now g.produced.now g.first.now g.next.now g.within in
    let low = subst (λ n. p.instance < n) (sym w.count) (w.inputs c.args.v p c.in-Some.is) in
    let j = get_or g.first.now p.instance 0 in
    subst (λ o. led_behind v g.produced.now o j ≡ led_to v g.produced.now o) (sym c.in-Some.is) (led_first v g.produced.now p j (w.made.firsts p.instance low))
