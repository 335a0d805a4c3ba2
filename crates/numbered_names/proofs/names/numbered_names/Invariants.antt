use Rattle.std.proofs.Common.{◌≡◌}
use Rattle.numbered_names.specs.Names.{numbered_names}
use Rattle.numbered_names.proofs.names.numbered_names.Given as goal

abbrev pub invariant-loop-k : goal.invariant-loop-k
invariant-loop-k l = l.names.items ≡ numbered_names l.first l.k
