use Rattle.std.proofs.Common.{◌≡◌, ℕ, ◌+◌, ◌*◌, ◌≤◌, length}
use Rattle.wf_recur.specs.Cycles.{round_at}
use Rattle.decode_model.specs.Counts.{most_products}
use Rattle.wf_words.specs.WordViews.{OfLifted, accepting_below}
use Rattle.wf_words.proofs.StatesTried.{NoneBelow}
use Rattle.wf_words.proofs.some_state.is_yes_in_some.Given as goal

-- no state so far
abbrev pub invariant-loop-state : goal.invariant-loop-state
invariant-loop-state g l = record {
  none : OfLifted l.words l.first l.second (λ u x y. NoneBelow l.words u x y l.state);
  room : l.scratch ≡ l.initial.scratch;
  label_room : l.w.room ≡ l.initial.w.room;
  cost : (most : ℕ) → ((k : ℕ) → length (round_at l.words.lifted.cycles k) ≤ most) → l.steps ≤ l.initial.steps + accepting_below l.words.automaton l.state * most_products l.words.lifted.grammar most;
}
