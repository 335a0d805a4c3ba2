use Rattle.std.proofs.Common.{◌≡◌, ◌<◌, ℕ, length, get_or, None, ◌+◌, ◌≤◌}
use Rattle.wf_model.specs.View.{expands}
use Rattle.label_model.specs.Continuing.{after}
use Rattle.wf_recur.specs.Cycles.{round_at, least_of}
use Rattle.wf_vlabel.specs.Cuts.{IsCut, IsCutWithin}
use Rattle.wf_vlabel.proofs.cuts.cut_cycle.Given as goal

abbrev pub invariant-loop-ahead : goal.invariant-loop-ahead
invariant-loop-ahead l =
    (l.ahead ≤ l.length) ×
    ((b : ℕ) → l.ahead + b ≡ l.length → IsCutWithin l.g.grammar.now.core (expands l.view.core) (after l.g.grammar.now.core l.ahead (least_of (round_at l.g.cycles.now l.c.0))) b l.next)

abbrev pub decreases-loop-ahead : goal.decreases-loop-ahead
decreases-loop-ahead l = l.ahead

abbrev pub invariant-loop-place : goal.invariant-loop-place
invariant-loop-place l =
    (l.place ≤ l.length) ×
    ((b : ℕ) → l.place + b ≡ l.length + l.length → IsCutWithin l.g.grammar.now.core (expands l.view.core) (after l.g.grammar.now.core l.place (least_of (round_at l.g.cycles.now l.c.0))) b l.next) ×
    (length l.cuts ≡ length l.initial.cuts) ×
    ((m : ℕ) → IsCut l.g.grammar.now.core (expands l.view.core) m (get_or l.initial.cuts m None) → IsCut l.g.grammar.now.core (expands l.view.core) m (get_or l.cuts m None)) ×
    ((j : ℕ) → l.place ≤ j → j < l.length → IsCut l.g.grammar.now.core (expands l.view.core) (get_or (round_at l.g.cycles.now l.c.0) j 0) (get_or l.cuts (get_or (round_at l.g.cycles.now l.c.0) j 0) None))

abbrev pub decreases-loop-place : goal.decreases-loop-place
decreases-loop-place l = l.place
