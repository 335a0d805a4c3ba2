use Rattle.std.proofs.Common.{◌≡◌, ◌<◌, ℕ, length, get_or, None}
use Rattle.wf_model.specs.View.{expands}
use Rattle.wf_recur.specs.Cycles.{round_at}
use Rattle.wf_vlabel.specs.Cuts.{IsCut}
use Rattle.wf_vlabel.proofs.cuts.cuts_of.Given as goal

abbrev pub invariant-loop-c : goal.invariant-loop-c
invariant-loop-c l =
    (length l.cuts.items ≡ length l.s.linear.grammar.now.core.modules) ×
    ((k j : ℕ) → k < l.c → j < length (round_at l.s.linear.cycles.now k) → IsCut l.s.linear.grammar.now.core (expands l.s.view.now.core) (get_or (round_at l.s.linear.cycles.now k) j 0) (get_or l.cuts.items (get_or (round_at l.s.linear.cycles.now k) j 0) None))
