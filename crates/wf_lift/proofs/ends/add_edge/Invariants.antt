use Rattle.std.proofs.Common.{◌≡◌, ◌++◌, map}
use Rattle.wf_model.specs.Lists.{numbers_from}
use Rattle.wf_model.specs.Meaning.{edge_of}
use Rattle.words_model.specs.Lifting.{lift_edge}
use Rattle.wf_lift.proofs.ends.add_edge.Given as goal

-- the states so far
abbrev pub invariant-loop-s : goal.invariant-loop-s
invariant-loop-s l = map edge_of l.list.items ≡ map edge_of l.initial.list.items ++ map (λ s. lift_edge l.states s (edge_of l.edge)) (numbers_from 0 l.s)
