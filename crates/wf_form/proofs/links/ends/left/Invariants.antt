use Rattle.std.proofs.Common.{◌≡◌, take, map}
use Rattle.wf_model.specs.Meaning.{inner_of}
use Rattle.wf_form.specs.declared.wiring.Exit.{Exit}
use Rattle.wf_form.specs.Wiring.{in_head}
use Rattle.wf_form.proofs.links.ends.left.Given as goal

abbrev pub invariant-loop-exit : goal.invariant-loop-exit
invariant-loop-exit l = map inner_of l.ends.items ≡ map in_head (map (λ (e : Exit). e.port.0) (take l.exit-index l.one.exits.items))
