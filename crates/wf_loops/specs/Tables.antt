-- The loop steps of modules, as a table.
use Rattle.std.specs.Prelude.{List, map, Option, option_map}
use Rattle.wf_model.specs.declared.body.Step.{Step as StepHeld}
use Rattle.wf_model.specs.Reach.{Step}
use Rattle.wf_model.specs.Steps.{step_of}

-- steps, as the definitions see them
abbrev pub steps_in : List (Option StepHeld) → List (Option Step)
steps_in = map (option_map step_of)
