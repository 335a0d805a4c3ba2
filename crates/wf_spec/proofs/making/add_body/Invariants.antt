use Rattle.std.proofs.Common.{◌≡◌, ◌++◌, map, take}
use Rattle.wf_model.specs.Meaning.{position_of}
use Rattle.wf_spec.specs.Bodies.{modules_at}
use Rattle.wf_spec.proofs.making.add_body.Given as goal

abbrev pub invariant-loop-q : goal.invariant-loop-q
invariant-loop-q l = l.list.items ≡ l.initial.list.items ++ modules_at (map position_of (take l.q-index l.q-items))
