use Rattle.std.proofs.Common.{◌≡◌, take, map}
use Rattle.wf_model.specs.Meaning.{position_of}
use Rattle.wf_spec.specs.Bodies.{modules_at}
use Rattle.wf_form.specs.Bodies.{outputs_in}
use Rattle.wf_form.proofs.links.counts.output_counts.Given as goal

abbrev pub invariant-loop-q : goal.invariant-loop-q
invariant-loop-q l = l.counts.items ≡ map (outputs_in l.modules) (modules_at (map position_of (take l.q-index l.positions)))
