use Rattle.std.proofs.Common.{take}
use Rattle.wf_model.specs.Safe.{IsChosen}
use Rattle.wf_safe.specs.Witness.{chosen_in}
use Rattle.wf_safe.proofs.check.numbers.is_chosen.Given as goal

abbrev pub invariant-loop-c : goal.invariant-loop-c
invariant-loop-c l = IsChosen (chosen_in (take l.c-index l.choice)) l.m.0 l.p.0 → ⊥
