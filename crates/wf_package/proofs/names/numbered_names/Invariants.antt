use Rattle.std.proofs.Common.{◌≡◌}
use Rattle.package_model.specs.Packages.{numbered_names}
use Rattle.wf_package.proofs.names.numbered_names.Given as goal

-- the names so far
abbrev pub invariant-loop-k : goal.invariant-loop-k
invariant-loop-k l = l.names.items ≡ numbered_names l.letter l.k
