-- What contracts see of steps.
use Rattle.wf_model.specs.declared.body.Step.{Step as StepHeld}
use Rattle.wf_model.specs.Reach.{Step}

-- a step, as the definitions see it
abbrev pub step_of : StepHeld → Step
step_of s = record { production = s.production.0; position = s.position.0 }
