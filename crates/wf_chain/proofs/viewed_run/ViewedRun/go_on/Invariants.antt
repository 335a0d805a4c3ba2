use Rattle.std.proofs.Common.{drop}
use Rattle.wf_chain.proofs.ChainSteps.{IsLeft}
use Rattle.wf_chain.proofs.viewed_run.ViewedRun.go_on.Given as goal

abbrev pub invariant-loop-step : goal.invariant-loop-step
invariant-loop-step l = IsLeft l.self l.first l.steps l.at (drop l.step-index l.steps)
