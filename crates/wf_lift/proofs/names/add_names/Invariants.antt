use Rattle.std.proofs.Common.{◌≡◌, ◌++◌, map}
use Rattle.wf_model.specs.Lists.{numbers_from}
use Rattle.words_model.specs.Lifting.{port_name}
use Rattle.wf_lift.proofs.names.add_names.Given as goal

-- the states so far
abbrev pub invariant-loop-s : goal.invariant-loop-s
invariant-loop-s l = l.list.items ≡ l.initial.list.items ++ map (port_name l.letter l.port) (numbers_from 0 l.s)
