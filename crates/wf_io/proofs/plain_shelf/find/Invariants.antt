use Rattle.std.proofs.Common.{◌≡◌, length}
use Rattle.wf_io.specs.Stored.{stored_whole}
use Rattle.wf_io.proofs.plain_shelf.find.Given as goal

abbrev pub invariant-loop-rest : goal.invariant-loop-rest
invariant-loop-rest l = stored_whole l.rest l.name ≡ stored_whole l.initial.rest l.name

abbrev pub decreases-loop-rest : goal.decreases-loop-rest
decreases-loop-rest l = length l.rest
