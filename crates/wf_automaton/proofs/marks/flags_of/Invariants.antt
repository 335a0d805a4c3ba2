use Rattle.std.proofs.Common.{◌≡◌, length, take}
use Rattle.wf_automaton.specs.Tables.{AreFlagsOf}
use Rattle.wf_automaton.proofs.marks.flags_of.Given as goal

abbrev pub invariant-loop-s : goal.invariant-loop-s
invariant-loop-s l = record {
  count : length l.flags.items ≡ l.states;
  flags : AreFlagsOf (take l.s-index l.accept) l.flags.items;
}
