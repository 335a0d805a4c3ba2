use Rattle.std.proofs.Common.{◌≡◌, ◌↔◌, ℕ, ◌<◌, true, false, length, get_or}
use Rattle.wf_recur.specs.Cycles.{round_at}
use Rattle.wf_version.specs.Rounds.{RoundWithin}
use Rattle.wf_version.proofs.rounds.marks.Given as goal

abbrev pub invariant-loop-c : goal.invariant-loop-c
invariant-loop-c l = record {
  count : length l.list.items ≡ l.c;
  told : (k : ℕ) → k < l.c → (get_or l.list.items k false ≡ true) ↔ RoundWithin l.g.grammar.now.core l.version.productions (round_at l.g.cycles.now k);
}
