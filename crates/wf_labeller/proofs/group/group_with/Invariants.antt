use Rattle.std.proofs.Common.{◌<◌, ◌≤◌, ◌-◌, ◌∷◌, length, map, get_or}
use Rattle.wf_labeller.specs.Groups.{end_of}
use Rattle.wf_labeller.proofs.group.group_with.Given as goal

-- the item stands behind the beginning of the lowest group that is left, and before that of the highest
abbrev pub invariant-loop-low : goal.invariant-loop-low
invariant-loop-low l = record {
  some : l.low < l.high;
  inside : l.high ≤ length l.groups;
  begun : get_or (0 ∷ map end_of l.groups) l.low 0 ≤ l.item;
  within : l.item < get_or (0 ∷ map end_of l.groups) l.high 0;
}

abbrev pub decreases-loop-low : goal.decreases-loop-low
decreases-loop-low l = l.high - l.low
