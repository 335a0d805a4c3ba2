use Rattle.std.proofs.Common.{◌≡◌, ◌≤◌, ℕ, List, true, Some}
use Rattle.wf_io.specs.Told.{File}
use Rattle.wf_io.specs.Readers.{Stands, left_in, left_over, GoesOnReading}
use Rattle.wf_io.proofs.lines.Lines.advance.Given as goal

abbrev pub invariant-loop-self : goal.invariant-loop-self
invariant-loop-self g l = record {
  stands : (f : List ℕ → File) → g.H.Shelf.files l.initial.shelf ≡ Some f → Stands (f l.initial.self.name) l.initial.self → Stands (f l.initial.self.name) l.self;
  left : (f : List ℕ → File) → g.H.Shelf.files l.initial.shelf ≡ Some f → Stands (f l.initial.self.name) l.initial.self → left_in (f l.initial.self.name) l.self ≡ left_in (f l.initial.self.name) l.initial.self;
  name : l.self.name ≡ l.initial.self.name;
  live : l.self.live ≡ true;
  less : left_over l.self ≤ left_over l.initial.self;
  number : l.initial.self.number ≤ l.self.number;
  line : l.self.line ≡ l.initial.self.line;
  reading : GoesOnReading l.initial.self l.self (g.H.Shelf.readings l.initial.shelf) (g.H.Shelf.readings l.shelf);
  files : g.H.Shelf.files l.shelf ≡ g.H.Shelf.files l.initial.shelf;
  faults : g.H.Shelf.faults l.shelf ≡ g.H.Shelf.faults l.initial.shelf;
}

abbrev pub decreases-loop-self : goal.decreases-loop-self
decreases-loop-self g l = left_over l.self
