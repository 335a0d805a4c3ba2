use Rattle.std.proofs.Common.{◌≡◌, ◌<◌, ◌≤◌, ◌+◌, ◌*◌, ◌++◌, length, map}
use Rattle.wf_model.specs.declared.body.Step.{Step as StepHeld}
use Rattle.wf_model.specs.Lists.{IsIn}
use Rattle.wf_model.specs.Grammar.{body_of}
use Rattle.wf_model.specs.Steps.{step_of}
use Rattle.compare_model.specs.RunAlong.{expand_along, number_along, run_along}
use Rattle.wf_compare.proofs.run.run_along.Given as goal

-- the rest of the steps, and what they add to the run
abbrev pub invariant-loop-left : goal.invariant-loop-left
invariant-loop-left l = record {
  few : l.made + 64 * length l.left ≤ 65537;
  productions : (s : StepHeld) → IsIn s l.left → s.production.0 < length l.g.core.productions;
  positions : (s : StepHeld) → IsIn s l.left → s.position.0 < length (body_of l.g.core s.production.0);
  run_is : l.run.items ++ expand_along l.g.core l.made l.here (map step_of l.left) ≡ run_along l.g.core (map step_of l.steps);
  number : number_along l.g.core l.made l.here (map step_of l.left) ≡ number_along l.g.core 1 0 (map step_of l.steps);
}

abbrev pub decreases-loop-left : goal.decreases-loop-left
decreases-loop-left l = length l.left
