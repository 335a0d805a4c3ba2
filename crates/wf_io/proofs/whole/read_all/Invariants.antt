use Rattle.std.proofs.Common.{◌≡◌, ◌<◌, ◌≤◌, length, ◌-◌}
use Rattle.wf_io.specs.Told.{Begins}
use Rattle.wf_io.proofs.Onward.{HasCome}
use Rattle.wf_io.proofs.whole.read_all.Given as goal

abbrev pub invariant-loop-bytes : goal.invariant-loop-bytes
invariant-loop-bytes g l =
    (g.H.Shelf.files l.shelf ≡ g.H.Shelf.files l.initial.shelf)
    × (g.H.Shelf.faults l.shelf ≡ g.H.Shelf.faults l.initial.shelf)
    × (0 < length l.chunk)
    × (length l.bytes.items ≤ l.most)
    × Begins (g.H.Shelf.files l.initial.shelf) l.name l.bytes.items
    × HasCome l.name (length l.bytes.items) (g.H.Shelf.readings l.initial.shelf) (g.H.Shelf.readings l.shelf)

abbrev pub decreases-loop-bytes : goal.decreases-loop-bytes
decreases-loop-bytes g l = l.most - length l.bytes.items
