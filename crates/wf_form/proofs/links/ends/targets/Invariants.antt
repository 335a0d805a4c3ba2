use Rattle.std.proofs.Common.{◌≡◌, ◌++◌, take, map}
use Rattle.wf_model.specs.declared.body.Edge.{Edge}
use Rattle.wf_model.specs.Meaning.{inner_of}
use Rattle.wf_form.specs.declared.wiring.Entry.{Entry}
use Rattle.wf_form.proofs.links.ends.targets.Given as goal

abbrev pub invariant-loop-edge : goal.invariant-loop-edge
invariant-loop-edge l = map inner_of l.ends.items ≡ map (λ (e : Edge). inner_of e.to) (take l.edge-index l.one.edges.items)

abbrev pub invariant-loop-entry : goal.invariant-loop-entry
invariant-loop-entry l = map inner_of l.ends.items ≡ map (λ (e : Edge). inner_of e.to) l.one.edges.items ++ map (λ (e : Entry). inner_of e.to) (take l.entry-index l.one.entries.items)
