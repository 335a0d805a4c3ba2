use Rattle.std.proofs.Common.{◌≡◌, length}
use Rattle.wf_flat.specs.Leading.{NamesRows}
use Rattle.wf_flat.proofs.placing.place_rows.Given as goal

abbrev pub invariant-loop-i : goal.invariant-loop-i
invariant-loop-i l = record { count : length l.words.items ≡ length l.initial.words.items; named : NamesRows l.first l.i l.row l.initial.words.items l.words.items }
