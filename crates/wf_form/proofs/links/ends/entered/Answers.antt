use Rattle.std.proofs.Common.{◌∙◌, ◌+◌, ◌≤◌, List, [], ap, length, map, refl, subst, sym, take}
use Rattle.std.proofs.lemmas.List.{take_all}
use Rattle.std.proofs.lemmas.Simd.{map-map}
use Rattle.wf_model.specs.Meaning.{inner_of}
use Rattle.wf_form.specs.declared.wiring.Entry.{Entry}
use Rattle.wf_form.specs.Wiring.{in_head}
use Rattle.wf_form.proofs.Pushing.{pushed_more}
use Rattle.wf_form.proofs.links.ends.entered.Goals as goal

pub loop-entry-preserved : goal.loop-entry-preserved
loop-entry-preserved c =
    pushed_more inner_of (λ (e : Entry). in_head e.port.0) [] c.loop-entry.ends.items c.push.new.self.items _ c.deref-entry-items.result.now c.args.one.now.entries.items c.loop-entry.entry-index _
    (c.loop-entry.invariant ∙ map-map in_head (λ (e : Entry). e.port.0) (take c.loop-entry.entry-index c.args.one.now.entries.items)) refl c.loop-entry-test.true c.deref-entry-items.ensures.value c.in_ok-push.ensures.items
    ∙ sym (map-map in_head (λ (e : Entry). e.port.0) (take (c.loop-entry.entry-index + 1) c.args.one.now.entries.items))

pub loop-entry-init : goal.loop-entry-init
loop-entry-init c = ap (map inner_of) c.new-ends.ensures.items

pub returns : goal.returns
returns c =
    c.loop-entry.invariant
    ∙ ap (λ (l : List Entry). map in_head (map (λ (e : Entry). e.port.0) l))
    (take_all c.loop-entry.entry-index c.args.one.now.entries.items (subst (λ (l : List Entry). length l ≤ c.loop-entry.entry-index) c.deref-entry-items.ensures.value c.loop-entry-test.false))
