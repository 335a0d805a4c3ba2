use Rattle.std.proofs.Common.{◌≡◌, ◌++◌, take, drop}
use Rattle.wf_model.specs.Faults.{some_twice}
use Rattle.wf_form.proofs.checks.different.take_new.Given as goal

abbrev pub invariant-loop-name : goal.invariant-loop-name
invariant-loop-name l = record {
  taken : l.taken ≡ l.initial.taken ++ take l.name-index l.names;
  left : some_twice l.taken (drop l.name-index l.names) ≡ some_twice l.initial.taken l.names;
}
