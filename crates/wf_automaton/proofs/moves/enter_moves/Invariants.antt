use Rattle.std.proofs.Common.{◌≡◌, ℕ, ◌<◌, length, take}
use Rattle.wf_automaton.specs.Rules.{IsNewMoveAt}
use Rattle.wf_automaton.specs.Tables.{AreMovesOf}
use Rattle.wf_automaton.proofs.moves.enter_moves.Given as goal

abbrev pub invariant-loop-k : goal.invariant-loop-k
invariant-loop-k l = record {
  count : length l.table ≡ length l.initial.table;
  table : AreMovesOf l.states (take l.k l.moves) l.table;
  new : (j : ℕ) → j < l.k → IsNewMoveAt l.moves j;
}
