use Rattle.std.proofs.Common.{◌≡◌, true, rules, sym, subst}
use Rattle.std.specs.Prelude.{OnOk}
use Rattle.wf_io.specs.Readers.{IsReading, GoesOnReading, Reader}
use Rattle.base_trials.proofs.OpenedLines.{opened_lines}
use Rattle.base_trials.proofs.line_tests.lent.Goals as goal
use Rattle.base_trials.proofs.line_tests.lent.Goals.{in-Ok-Some+in_ok-extend_from_slice-in-Ok-Some, in-Ok-None, in-Err}

pub lines-init : goal.lines-init
lines-init g c = opened_lines _ _ c.in_ok-lines.ensures _

pub lines-preserved : goal.lines-preserved
lines-preserved g c = elim c.match-next.branch [
  | in-Ok-Some+in_ok-extend_from_slice-in-Ok-Some w ↦
      let held = c.next.follows.holds-at-none in
      let live = subst (λ r. OnOk r (c.next.follows.lender-at-none.live ≡ true)) w.in-Ok-Some.is held.live in
      let reading = subst (λ r. OnOk r (GoesOnReading c.lines.lines c.next.follows.lender-at-none (g.H.Shelf.readings c.lines.shelf) (g.H.Shelf.readings c.next.new.shelf))) w.in-Ok-Some.is held.reading in
      subst (λ (z : Reader). (z.live ≡ true) × IsReading z (g.H.Shelf.readings c.next.new.shelf)) (sym w.lines-is)
      (live, (c.lines.invariant.1.0, reading c.lines.invariant.1.0 c.lines.invariant.1.1))
  | in-Ok-None w ↦ search (rules)
  | in-Err w ↦ search (rules)
]
