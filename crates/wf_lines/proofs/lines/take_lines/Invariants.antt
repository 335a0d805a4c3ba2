use Rattle.std.proofs.Common.{◌≡◌, ◌≤◌, ◌+◌, ℕ, List, true, Some, length}
use Rattle.wf_io.specs.Told.{File}
use Rattle.wf_io.specs.Readers.{Stands, left_in, left_over, GoesOnReading}
use Rattle.wf_lines.proofs.SoFar.{IsTakenSoFar}
use Rattle.wf_lines.proofs.lines.take_lines.Given as goal

abbrev pub invariant-loop-halt : goal.invariant-loop-halt
invariant-loop-halt g l = record {
  ready : g.T.Taker.is_ready l.taker;
  known : (k : g.T.Taker.Known) → g.T.Taker.is_known l.initial.taker k → g.T.Taker.is_known l.taker k;
  stands : (f : List ℕ → File) → g.H.Shelf.files l.initial.shelf ≡ Some f → Stands (f l.initial.lines.name) l.initial.lines → Stands (f l.initial.lines.name) l.lines;
  so_far : (f : List ℕ → File) → g.H.Shelf.files l.initial.shelf ≡ Some f → Stands (f l.initial.lines.name) l.initial.lines → (s : g.T.Taker.State) → g.T.Taker.is_at l.initial.taker s →
      IsTakenSoFar g.T.Taker.ends g.T.Taker.takes g.T.Taker.stops (g.T.Taker.is_at l.taker) s (left_in (f l.initial.lines.name) l.initial.lines) (left_in (f l.initial.lines.name) l.lines) l.due (g.O.Sink.put_bytes l.initial.out) (g.O.Sink.put_bytes l.out);
  count : (f : List ℕ → File) → g.H.Shelf.files l.initial.shelf ≡ Some f → Stands (f l.initial.lines.name) l.initial.lines → l.taken + length (left_in (f l.initial.lines.name) l.lines).lines ≡ length (left_in (f l.initial.lines.name) l.initial.lines).lines;
  name : l.lines.name ≡ l.initial.lines.name;
  reading : GoesOnReading l.initial.lines l.lines (g.H.Shelf.readings l.initial.shelf) (g.H.Shelf.readings l.shelf);
  live : l.lines.live ≡ true;
  taken : l.taken ≤ l.lines.line;
  files : g.H.Shelf.files l.shelf ≡ g.H.Shelf.files l.initial.shelf;
  faults : g.H.Shelf.faults l.shelf ≡ g.H.Shelf.faults l.initial.shelf;
  put_faults : g.O.Sink.faults l.out ≡ g.O.Sink.faults l.initial.out;
}

abbrev pub decreases-loop-halt : goal.decreases-loop-halt
decreases-loop-halt g l = left_over l.lines
