use Rattle.std.proofs.Common.{◌≡◌, ◌<◌, ℕ, length, get_or, None}
use Rattle.wf_recur.specs.Steps.{TellsStep}
use Rattle.wf_recur.proofs.steps.only_steps.Given as goal

abbrev pub invariant-loop-m : goal.invariant-loop-m
invariant-loop-m l = record {
  count : length l.steps.items ≡ l.m;
  told : (k : ℕ) → k < l.m → TellsStep l.g.core k (get_or l.steps.items k None);
}
