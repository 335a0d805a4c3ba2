use Rattle.std.proofs.Common.{◌≡◌, ◌<◌, ℕ, get_or}
use Rattle.wf_graph.proofs.shortest.first_met.Given as goal

abbrev pub invariant-loop-j : goal.invariant-loop-j
invariant-loop-j l = record {
  behind : 0 < l.j;
  none : (i : ℕ) → 0 < i → i < l.j → get_or l.queue i 0 ≡ l.v → ⊥;
}
