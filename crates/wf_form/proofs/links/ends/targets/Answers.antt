use Rattle.std.proofs.Common.{◌∙◌, ◌≤◌, ◌++◌, List, [], ap, length, map, refl, subst, sym}
use Rattle.std.proofs.lemmas.List.{append-nil, take_all}
use Rattle.wf_model.specs.declared.body.Edge.{Edge}
use Rattle.wf_model.specs.Meaning.{inner_of}
use Rattle.wf_form.specs.declared.wiring.Entry.{Entry}
use Rattle.wf_form.proofs.Pushing.{pushed_more}
use Rattle.wf_form.proofs.links.ends.targets.Goals as goal

pub loop-edge-preserved : goal.loop-edge-preserved
loop-edge-preserved c =
    pushed_more inner_of (λ (e : Edge). inner_of e.to) [] c.loop-edge.ends.items c.push.new.self.items _ c.deref-edge-items.result.now c.args.one.now.edges.items c.loop-edge.edge-index _
    c.loop-edge.invariant refl c.loop-edge-test.true c.deref-edge-items.ensures.value c.in_ok-push.ensures.items

pub loop-entry-preserved : goal.loop-entry-preserved
loop-entry-preserved c =
    pushed_more inner_of (λ (e : Entry). inner_of e.to) (map (λ (e : Edge). inner_of e.to) c.args.one.now.edges.items) c.loop-entry.ends.items c.push-in-loop-entry.new.self.items _
    c.deref-entry-items.result.now c.args.one.now.entries.items c.loop-entry.entry-index _ c.loop-entry.invariant refl c.loop-entry-test.true c.deref-entry-items.ensures.value c.in_ok-push-2.ensures.items

pub loop-edge-init : goal.loop-edge-init
loop-edge-init c = ap (map inner_of) c.new-ends.ensures.items

pub loop-entry-init : goal.loop-entry-init
loop-entry-init c =
    c.loop-edge.invariant
    ∙ ap (map (λ (e : Edge). inner_of e.to)) (take_all c.loop-edge.edge-index c.args.one.now.edges.items (subst (λ (l : List Edge). length l ≤ c.loop-edge.edge-index) c.deref-edge-items.ensures.value c.loop-edge-test.false))
    ∙ sym (append-nil (map (λ (e : Edge). inner_of e.to) c.args.one.now.edges.items))

pub returns : goal.returns
returns c =
    c.loop-entry.invariant
    ∙ ap (λ (l : List Entry). map (λ (e : Edge). inner_of e.to) c.args.one.now.edges.items ++ map (λ (e : Entry). inner_of e.to) l)
    (take_all c.loop-entry.entry-index c.args.one.now.entries.items (subst (λ (l : List Entry). length l ≤ c.loop-entry.entry-index) c.deref-entry-items.ensures.value c.loop-entry-test.false))
