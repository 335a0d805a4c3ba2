use Rattle.std.proofs.Common.{◌≡◌, true}
use Rattle.wf_io.specs.Readers.{left_over, IsReading}
use Rattle.base_trials.proofs.line_tests.advanced.Given as goal

abbrev pub invariant-lines : goal.invariant-lines
invariant-lines g l = (l.lines.live ≡ true) × IsReading l.lines (g.H.Shelf.readings l.shelf)

abbrev pub decreases-lines : goal.decreases-lines
decreases-lines g l = left_over l.lines
