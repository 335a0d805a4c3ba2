use Rattle.std.proofs.Common.{◌≡◌, None, true, false, get_or}
use Rattle.wf_model.specs.Links.{output}
use Rattle.wf_safe.specs.BodyGraph.{vertex_of}
use Rattle.wf_safe.proofs.BodyRows.{IsRowOf}
use Rattle.wf_safe.proofs.check.body.marked_outputs.Given as goal

-- the outputs so far
abbrev pub invariant-loop-o : goal.invariant-loop-o
invariant-loop-o l = IsRowOf (λ o. get_or l.marks (vertex_of (output None o)) false ≡ true) l.o l.row
