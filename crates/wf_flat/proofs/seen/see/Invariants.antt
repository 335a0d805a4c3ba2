use Rattle.std.proofs.Common.{◌≡◌, ◌++◌, ◌-◌, ◌+◌, length}
use Rattle.wf_model.specs.Lists.{numbers_from}
use Rattle.wf_flat.specs.Graph.{Agree}
use Rattle.wf_flat.proofs.seen.see.Given as goal

abbrev pub invariant-loop-c : goal.invariant-loop-c
invariant-loop-c l = record {
  seen : l.seen.items ++ numbers_from l.c (l.first + l.count - l.c) ≡ l.initial.seen.items ++ numbers_from l.first l.count;
  agree : Agree l.flags.items l.seen.items;
  count : length l.flags.items ≡ length l.initial.flags.items;
}
