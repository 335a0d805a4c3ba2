use Rattle.std.proofs.Common.{take}
use Rattle.wf_model.specs.Meaning.{pairs_of}
use Rattle.wf_body.specs.Order.{positions_of}
use Rattle.wf_body.proofs.Telling.{AreToldFor}
use Rattle.wf_body.proofs.pass.pass.Given as goal

-- the positions so far
abbrev pub invariant-loop-k : goal.invariant-loop-k
invariant-loop-k l = AreToldFor l.g.core (pairs_of l.deps) l.fn.p.0 l.fn.from (take l.k-index (positions_of l.k-items)) l.ins.items l.outs.items
