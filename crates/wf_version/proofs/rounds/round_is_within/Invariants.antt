use Rattle.std.proofs.Common.{ℕ, ◌<◌, get_or}
use Rattle.wf_recur.specs.Cycles.{round_at}
use Rattle.wf_version.specs.Rounds.{ContinuesWithin}
use Rattle.wf_version.proofs.rounds.round_is_within.Given as goal

abbrev pub invariant-loop-place : goal.invariant-loop-place
invariant-loop-place l = (j : ℕ) → j < l.place → ContinuesWithin l.g.grammar.now.core l.version.productions (get_or (round_at l.g.cycles.now l.c.0) j 0)
