use Rattle.std.proofs.Common.{◌∙◌, ◌+◌, ◌≤◌, List, [], ap, length, map, refl, subst, sym, take}
use Rattle.std.proofs.lemmas.List.{take_all}
use Rattle.std.proofs.lemmas.Simd.{map-map}
use Rattle.wf_model.specs.Meaning.{inner_of}
use Rattle.wf_form.specs.declared.wiring.Exit.{Exit}
use Rattle.wf_form.specs.Wiring.{in_head}
use Rattle.wf_form.proofs.Pushing.{pushed_more}
use Rattle.wf_form.proofs.links.ends.left.Goals as goal

pub loop-exit-preserved : goal.loop-exit-preserved
loop-exit-preserved c =
    pushed_more inner_of (λ (e : Exit). in_head e.port.0) [] c.loop-exit.ends.items c.push.new.self.items _ c.deref-exit-items.result.now c.args.one.now.exits.items c.loop-exit.exit-index _
    (c.loop-exit.invariant ∙ map-map in_head (λ (e : Exit). e.port.0) (take c.loop-exit.exit-index c.args.one.now.exits.items)) refl c.loop-exit-test.true c.deref-exit-items.ensures.value c.in_ok-push.ensures.items
    ∙ sym (map-map in_head (λ (e : Exit). e.port.0) (take (c.loop-exit.exit-index + 1) c.args.one.now.exits.items))

pub loop-exit-init : goal.loop-exit-init
loop-exit-init c = ap (map inner_of) c.new-ends.ensures.items

pub returns : goal.returns
returns c =
    c.loop-exit.invariant
    ∙ ap (λ (l : List Exit). map in_head (map (λ (e : Exit). e.port.0) l))
    (take_all c.loop-exit.exit-index c.args.one.now.exits.items (subst (λ (l : List Exit). length l ≤ c.loop-exit.exit-index) c.deref-exit-items.ensures.value c.loop-exit-test.false))
