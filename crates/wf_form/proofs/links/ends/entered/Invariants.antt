use Rattle.std.proofs.Common.{◌≡◌, take, map}
use Rattle.wf_model.specs.Meaning.{inner_of}
use Rattle.wf_form.specs.declared.wiring.Entry.{Entry}
use Rattle.wf_form.specs.Wiring.{in_head}
use Rattle.wf_form.proofs.links.ends.entered.Given as goal

abbrev pub invariant-loop-entry : goal.invariant-loop-entry
invariant-loop-entry l = map inner_of l.ends.items ≡ map in_head (map (λ (e : Entry). e.port.0) (take l.entry-index l.one.entries.items))
