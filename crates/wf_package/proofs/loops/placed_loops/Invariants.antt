use Rattle.std.proofs.Common.{◌≡◌, map, take}
use Rattle.wf_package.specs.Parts.{made_by_place, loop_entry_of, loop_part}
use Rattle.wf_package.proofs.loops.placed_loops.Given as goal

-- the modules so far
abbrev pub invariant-loop-k : goal.invariant-loop-k
invariant-loop-k l = map loop_entry_of l.list.items ≡ made_by_place (loop_part l.g.grammar.now.core l.view.core l.places) 0 (take l.k l.numbers)
