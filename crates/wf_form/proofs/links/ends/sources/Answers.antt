use Rattle.std.proofs.Common.{◌∙◌, ◌≤◌, ◌++◌, List, [], ap, length, map, refl, subst, sym}
use Rattle.std.proofs.lemmas.List.{append-nil, take_all}
use Rattle.wf_model.specs.declared.body.Edge.{Edge}
use Rattle.wf_model.specs.Meaning.{inner_of}
use Rattle.wf_form.specs.declared.wiring.Exit.{Exit}
use Rattle.wf_form.proofs.Pushing.{pushed_more}
use Rattle.wf_form.proofs.links.ends.sources.Goals as goal

pub loop-edge-preserved : goal.loop-edge-preserved
loop-edge-preserved c =
    pushed_more inner_of (λ (e : Edge). inner_of e.from) [] c.loop-edge.ends.items c.push.new.self.items _ c.deref-edge-items.result.now c.args.one.now.edges.items c.loop-edge.edge-index _
    c.loop-edge.invariant refl c.loop-edge-test.true c.deref-edge-items.ensures.value c.in_ok-push.ensures.items

pub loop-exit-preserved : goal.loop-exit-preserved
loop-exit-preserved c =
    pushed_more inner_of (λ (e : Exit). inner_of e.from) (map (λ (e : Edge). inner_of e.from) c.args.one.now.edges.items) c.loop-exit.ends.items c.push-in-loop-exit.new.self.items _
    c.deref-exit-items.result.now c.args.one.now.exits.items c.loop-exit.exit-index _ c.loop-exit.invariant refl c.loop-exit-test.true c.deref-exit-items.ensures.value c.in_ok-push-2.ensures.items

pub loop-edge-init : goal.loop-edge-init
loop-edge-init c = ap (map inner_of) c.new-ends.ensures.items

pub loop-exit-init : goal.loop-exit-init
loop-exit-init c =
    c.loop-edge.invariant
    ∙ ap (map (λ (e : Edge). inner_of e.from)) (take_all c.loop-edge.edge-index c.args.one.now.edges.items (subst (λ (l : List Edge). length l ≤ c.loop-edge.edge-index) c.deref-edge-items.ensures.value c.loop-edge-test.false))
    ∙ sym (append-nil (map (λ (e : Edge). inner_of e.from) c.args.one.now.edges.items))

pub returns : goal.returns
returns c =
    c.loop-exit.invariant
    ∙ ap (λ (l : List Exit). map (λ (e : Edge). inner_of e.from) c.args.one.now.edges.items ++ map (λ (e : Exit). inner_of e.from) l)
    (take_all c.loop-exit.exit-index c.args.one.now.exits.items (subst (λ (l : List Exit). length l ≤ c.loop-exit.exit-index) c.deref-exit-items.ensures.value c.loop-exit-test.false))
