use Rattle.std.proofs.Common.{◌≡◌, ◌≤◌, ℕ, List, true, Some}
use Rattle.wf_io.specs.Told.{File}
use Rattle.wf_io.specs.Readers.{Stands, left_in, left_over, GoesOnReading}
use Rattle.wf_lines.specs.Taking.{IsDue}
use Rattle.wf_lines.proofs.next.next_line.Given as goal

abbrev pub invariant-loop-fault : goal.invariant-loop-fault
invariant-loop-fault g l = record {
  stands : (f : List ℕ → File) → g.H.Shelf.files l.initial.shelf ≡ Some f → Stands (f l.initial.lines.name) l.initial.lines → Stands (f l.initial.lines.name) l.lines;
  left : (f : List ℕ → File) → g.H.Shelf.files l.initial.shelf ≡ Some f → Stands (f l.initial.lines.name) l.initial.lines → left_in (f l.initial.lines.name) l.lines ≡ left_in (f l.initial.lines.name) l.initial.lines;
  name : l.lines.name ≡ l.initial.lines.name;
  reading : GoesOnReading l.initial.lines l.lines (g.H.Shelf.readings l.initial.shelf) (g.H.Shelf.readings l.shelf);
  live : l.lines.live ≡ true;
  line : l.lines.line ≡ l.initial.lines.line;
  less : left_over l.lines ≤ left_over l.initial.lines;
  due : IsDue l.initial.due l.due (g.O.Sink.put_bytes l.initial.out) (g.O.Sink.put_bytes l.out);
  files : g.H.Shelf.files l.shelf ≡ g.H.Shelf.files l.initial.shelf;
  faults : g.H.Shelf.faults l.shelf ≡ g.H.Shelf.faults l.initial.shelf;
  put_faults : g.O.Sink.faults l.out ≡ g.O.Sink.faults l.initial.out;
}

abbrev pub decreases-loop-fault : goal.decreases-loop-fault
decreases-loop-fault g l = left_over l.lines
