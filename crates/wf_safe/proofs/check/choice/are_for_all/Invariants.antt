use Rattle.std.proofs.Common.{◌≡◌, ◌++◌}
use Rattle.wf_safe.specs.Choosing.{needing_below}
use Rattle.wf_safe.specs.Witness.{chosen_in, modules_in}
use Rattle.wf_safe.proofs.check.choice.are_for_all.Given as goal

abbrev pub invariant-loop-m : goal.invariant-loop-m
invariant-loop-m l = modules_in (chosen_in l.choice) ≡ needing_below l.v.view.now l.m ++ modules_in (chosen_in l.left)
