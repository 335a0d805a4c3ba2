use Rattle.std.proofs.Common.{ℕ, List, ◌++◌, length}
use Rattle.wf_model.specs.declared.body.Step.{Step as StepHeld}
use Rattle.wf_graph.specs.Routes.{IsRoute}
use Rattle.wf_compare.specs.Steps.{row_of, targets_in, AreFirstSteps}
use Rattle.wf_compare.proofs.route.first_steps.Given as goal

-- the rest of the route, and how its steps go on
abbrev pub invariant-loop-left : goal.invariant-loop-left
invariant-loop-left l = record {
  route : (to : ℕ) × IsRoute (targets_in l.rows) l.at l.left to;
  onward : (more : List StepHeld) → AreFirstSteps (row_of l.rows) l.at l.left more → AreFirstSteps (row_of l.rows) l.from l.route (l.steps.items ++ more);
}

abbrev pub decreases-loop-left : goal.decreases-loop-left
decreases-loop-left l = length l.left
