use Rattle.std.proofs.Common.{◌≡◌, ◌++◌, take, map}
use Rattle.wf_model.specs.declared.body.Edge.{Edge}
use Rattle.wf_model.specs.Meaning.{inner_of}
use Rattle.wf_form.specs.declared.wiring.Exit.{Exit}
use Rattle.wf_form.proofs.links.ends.sources.Given as goal

abbrev pub invariant-loop-edge : goal.invariant-loop-edge
invariant-loop-edge l = map inner_of l.ends.items ≡ map (λ (e : Edge). inner_of e.from) (take l.edge-index l.one.edges.items)

abbrev pub invariant-loop-exit : goal.invariant-loop-exit
invariant-loop-exit l = map inner_of l.ends.items ≡ map (λ (e : Edge). inner_of e.from) l.one.edges.items ++ map (λ (e : Exit). inner_of e.from) (take l.exit-index l.one.exits.items)
