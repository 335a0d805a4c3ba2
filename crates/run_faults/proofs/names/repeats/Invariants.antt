use Rattle.std.proofs.Common.{◌≡◌, ◌++◌, take, drop}
use Rattle.wf_model.specs.Faults.{some_twice}
use Rattle.run_faults.proofs.names.repeats.Given as goal

abbrev pub invariant-loop-k : goal.invariant-loop-k
invariant-loop-k g l = some_twice (l.taken ++ take l.k l.names) (drop l.k l.names) ≡ some_twice l.taken l.names
