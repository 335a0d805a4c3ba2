use Rattle.std.proofs.Common.{◌≡◌, ◌++◌, List, ℕ, length}
use Rattle.wf_model.specs.Faults.{some_twice}
use Rattle.wf_names.proofs.names.Names.insert_all.Given as goal

abbrev pub invariant-loop-left : goal.invariant-loop-left
invariant-loop-left g l = record {
  all : l.self ++ l.left ≡ l.initial.self ++ l.initial.left;
  twice : some_twice l.self l.left ≡ some_twice l.initial.self l.initial.left;
  more : (ns : List (List ℕ)) × (l.self ≡ l.initial.self ++ ns);
}

abbrev pub decreases-loop-left : goal.decreases-loop-left
decreases-loop-left g l = length l.left
