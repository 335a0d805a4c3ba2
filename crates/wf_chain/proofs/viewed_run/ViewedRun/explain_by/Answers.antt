use Rattle.std.proofs.Common.{◌<◌, ◌^◌, ◌∙◌, List, Option, None, length, get_or, sym, ap, subst}
use Rattle.std.proofs.lemmas.Grind.{merely}
use Rattle.wf_flat.specs.declared.graph.Port.{Port}
use Rattle.wf_flat.specs.declared.table.Inst.{Inst}
use Rattle.wf_chain.specs.ViewedRuns.{ViewedRunValue, IsViewedRun}
use Rattle.wf_chain.specs.ItemGraphs.{AreMadeFrom}
use Rattle.wf_chain.proofs.ItemGraphs.{produced_there, within}
use Rattle.wf_chain.proofs.Explaining.{graph_made}
use Rattle.wf_chain.proofs.viewed_run.ViewedRun.explain_by.Goals as goal

pub consumers_of-requires : goal.consumers_of-requires
consumers_of-requires c = c.requires.items.each

pub producers_of-requires : goal.producers_of-requires
producers_of-requires c = c.requires.items.each

pub made_at-requires-clause-few : goal.made_at-requires-clause-few
made_at-requires-clause-few c = subst (λ n. n < 2 ^ 32) (sym (ap length c.deref.ensures.value ∙ c.in_ok-produced.ensures.count)) c.requires.few

pub made_at-requires-clause-there : goal.made_at-requires-clause-there
made_at-requires-clause-there c = λ k q e.
    let v = c.args.self.now in
    let kept = subst (λ (w : ViewedRunValue). IsViewedRun w c.self.inside.flags.items) c.self.view_is c.self.invariant in
    let all = c.instances.ensures.instances ∙ ap (λ (w : ViewedRunValue). w.run.instances) c.self.view_is in
    let ports = c.in_ok-produced.produced.items in
    let there = produced_there v kept.run kept.safe c.args.items.now c.in_ok-consumed.consumed.items ports c.requires.items c.in_ok-consumed.ensures c.in_ok-produced.ensures k q
    (ap (λ (l : List (Option Port)). get_or l k None) (sym c.deref.ensures.value) ∙ e) in
    subst (λ (l : List Inst). q.instance < length l) (sym all) there.unopened.port.there

pub chain_between-requires-clause-graph : goal.chain_between-requires-clause-graph
chain_between-requires-clause-graph c =
    let v = c.args.self.now in
    let kept = subst (λ (w : ViewedRunValue). IsViewedRun w c.self.inside.flags.items) c.self.view_is c.self.invariant in
    graph_made v kept.safe kept.run c.args.items.now c.requires.items c.in_ok-consumed.consumed.items c.deref-2.result.now c.in_ok-produced.produced.items c.deref-3.result.now
    c.in_ok-consumed.ensures c.in_ok-produced.ensures c.deref-2.ensures.value c.deref-3.ensures.value

pub invariant_of-graph : goal.invariant_of-graph
invariant_of-graph c =
    let v = c.args.self.now in
    let kept = subst (λ (w : ViewedRunValue). IsViewedRun w c.self.inside.flags.items) c.self.view_is c.self.invariant in
    let all = c.instances.ensures.instances ∙ ap (λ (w : ViewedRunValue). w.run.instances) c.self.view_is in
    let h = graph_made v kept.safe kept.run c.args.items.now c.requires.items c.in_ok-consumed.consumed.items c.deref-2.result.now c.in_ok-produced.produced.items c.deref-3.result.now
    c.in_ok-consumed.ensures c.in_ok-produced.ensures c.deref-2.ensures.value c.deref-3.ensures.value in
    let made = c.in_ok-made.made in
    let linked = subst (λ z. AreMadeFrom z 0 made.first.items made.next.items) (c.deref.ensures.value ∙ sym c.deref-3.ensures.value) c.in_ok-made.ensures.made in
    record {
      within = merely (within v h.run h.safe c.args.items.now c.deref-2.result.now c.deref-3.result.now h.items h.consumers h.producers c.deref-4.result.now c.deref-5.result.now
          c.requires.few (ap length c.deref-4.ensures.value ∙ (c.in_ok-made.ensures.count ∙ ap length all))
          (subst (λ z. AreMadeFrom c.deref-3.result.now 0 z c.deref-5.result.now) (sym c.deref-4.ensures.value) (subst (AreMadeFrom c.deref-3.result.now 0 made.first.items) (sym c.deref-5.ensures.value) linked)));
    }
