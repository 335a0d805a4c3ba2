use Rattle.std.proofs.Common.{◌≡◌, map, take}
use Rattle.cmd_make.specs.HeldLabels.{pair_of, firsts_of, seconds_of}
use Rattle.cmd_make.proofs.held.labels_of.Given as goal

-- the labels of the pairs so far
abbrev pub invariant-loop-i : goal.invariant-loop-i
invariant-loop-i l = record {
  firsts : l.firsts ≡ firsts_of l.run.labels (map pair_of (take l.i l.pairs));
  seconds : l.seconds ≡ seconds_of l.run.labels (map pair_of (take l.i l.pairs));
}
