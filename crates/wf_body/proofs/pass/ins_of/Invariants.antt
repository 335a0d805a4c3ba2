use Rattle.std.proofs.Common.{◌≡◌, length, map, take}
use Rattle.wf_model.specs.Meaning.{edge_of}
use Rattle.wf_body.proofs.Passing.{ReachBy}
use Rattle.wf_body.proofs.pass.ins_of.Given as goal

-- the edges so far
abbrev pub invariant-loop-e : goal.invariant-loop-e
invariant-loop-e l = record {
  reach : ReachBy l.g.core l.fn.p.0 l.fn.from l.fn.k.0 l.outs (map edge_of (take l.e-index l.leading)) l.ins;
  room : length l.ins ≡ 64;
}
