use Rattle.std.proofs.Common.{◌≡◌, ◌-◌, length}
use Rattle.wf_chain.specs.Steps.{IsSeenPort, LeadsInward}
use Rattle.wf_chain.proofs.viewed_run.ViewedRun.inner_end.Given as goal

abbrev pub invariant-loop-production : goal.invariant-loop-production
invariant-loop-production l = record {
  port : IsSeenPort l.self l.at;
  side : l.at.side ≡ l.fn.port.side;
  inward : LeadsInward l.self l.fn.port.side l.fn.port l.at;
}

abbrev pub decreases-loop-production : goal.decreases-loop-production
decreases-loop-production l = length l.self.run.instances - l.at.instance
