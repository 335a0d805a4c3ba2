use Rattle.std.proofs.Common.{◌≡◌, map, take}
use Rattle.words_model.specs.Lifting.{lift_module}
use Rattle.wf_lift.proofs.modules.lift_modules.Given as goal

-- the modules so far
abbrev pub invariant-loop-one : goal.invariant-loop-one
invariant-loop-one l = l.list.items ≡ map (lift_module l.states) (take l.one-index l.modules)
