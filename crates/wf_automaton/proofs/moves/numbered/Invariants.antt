use Rattle.std.proofs.Common.{◌≡◌, ℕ, ◌<◌, map, take}
use Rattle.wf_model.specs.Lists.{IsAt}
use Rattle.wf_automaton.specs.declared.parts.MovePart.{MovePart}
use Rattle.wf_automaton.specs.Rules.{move_of, IsMoveOf}
use Rattle.wf_automaton.proofs.moves.numbered.Given as goal

abbrev pub invariant-loop-k : goal.invariant-loop-k
invariant-loop-k l = record {
  moves : l.moves.items ≡ map (move_of l.g.core) (take l.k l.parts);
  known : (j : ℕ) → j < l.k → (v : MovePart) → IsAt v j l.parts → IsMoveOf l.g.core v;
}
