use Rattle.std.proofs.Common.{◌≡◌, ◌-◌, ◌++◌, true, map}
use Rattle.cmd_make.specs.DrillText.{pairs_drawn}
use Rattle.cmd_make.specs.HeldLabels.{pair_of}
use Rattle.cmd_make.proofs.pairs.draw_pairs.Given as goal

-- the pairs so far and those that are left are all
abbrev pub invariant-loop : goal.invariant-loop
invariant-loop l = record {
  ended : l.generator.ended ≡ true;
  all : map pair_of l.pairs.items ++ pairs_drawn (l.count - l.counter) l.items l.generator.draws ≡ pairs_drawn l.count l.items l.initial.generator.draws;
}
