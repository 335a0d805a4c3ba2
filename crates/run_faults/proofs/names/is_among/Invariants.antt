use Rattle.std.proofs.Common.{◌≡◌, drop}
use Rattle.wf_model.specs.Faults.{is_one_of}
use Rattle.run_faults.proofs.names.is_among.Given as goal

abbrev pub invariant-loop-one : goal.invariant-loop-one
invariant-loop-one l = is_one_of (drop l.one-index l.names) l.name ≡ is_one_of l.names l.name
