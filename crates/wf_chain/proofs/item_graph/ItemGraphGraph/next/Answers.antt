use Rattle.std.proofs.Common.{◌≡◌, [], ◌∷◌, length, sym, subst}
use Rattle.std.specs.Prelude.{MatchOption}
use Rattle.wf_chain.specs.ItemGraphs.{led_behind}
use Rattle.wf_chain.proofs.ItemGraphs.{is_within}
use Rattle.wf_chain.proofs.item_graph.ItemGraphGraph.next.Goals as goal

pub next_led-requires : goal.next_led-requires
next_led-requires c =
    let g = c.args.self.now in
    let w = is_within (length g.run.now.run.instances) g.consumed.now g.produced.now g.first.now g.next.now g.within in
    w.inputs c.args.v c.in-Some.input c.in-Some.is

pub returns : goal.returns
returns c =
    let g = c.args.self.now in
    subst (λ o. MatchOption c.next_led.result (led_behind g.run.now g.produced.now o c.args.mark ≡ []) (λ n. led_behind g.run.now g.produced.now o c.args.mark ≡ n.0 ∷ led_behind g.run.now g.produced.now o n.1)) (sym c.in-Some.is) c.next_led.ensures
