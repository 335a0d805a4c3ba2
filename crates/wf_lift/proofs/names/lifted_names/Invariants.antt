use Rattle.std.proofs.Common.{◌≡◌}
use Rattle.words_model.specs.Lifting.{lifted_names}
use Rattle.wf_lift.proofs.names.lifted_names.Given as goal

-- the ports so far
abbrev pub invariant-loop-p : goal.invariant-loop-p
invariant-loop-p l = l.list.items ≡ lifted_names l.letter l.states l.p
