use Rattle.std.proofs.Common.{◌≡◌, take}
use Rattle.wf_spec.specs.Naming.{names_of}
use Rattle.wf_spec.proofs.lists.names.name_table.Given as goal

abbrev pub invariant-loop-one : goal.invariant-loop-one
invariant-loop-one l = l.names ≡ names_of (take l.one-index l.modules)
