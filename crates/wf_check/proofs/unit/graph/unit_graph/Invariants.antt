use Rattle.std.proofs.Common.{◌≡◌, length, take}
use Rattle.wf_check.specs.UnitPaths.{IsGraphOf}
use Rattle.wf_check.proofs.unit.graph.unit_graph.Given as goal

abbrev pub invariant-loop-u : goal.invariant-loop-u
invariant-loop-u l = record { count : length l.graph.items ≡ l.modules; edges : IsGraphOf (take l.u-index l.units) l.graph.items }
