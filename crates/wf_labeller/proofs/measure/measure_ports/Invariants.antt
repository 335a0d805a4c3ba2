use Rattle.std.proofs.Common.{◌≡◌}
use Rattle.wf_labeller.specs.Groups.{longest_of, ports_bits}
use Rattle.wf_labeller.proofs.measure.measure_ports.Given as goal

-- the longest of the labels so far
abbrev pub invariant-loop-k : goal.invariant-loop-k
invariant-loop-k l = l.longest ≡ longest_of (ports_bits l.side l.k)
