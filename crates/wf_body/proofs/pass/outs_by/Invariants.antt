use Rattle.std.proofs.Common.{◌≡◌, length}
use Rattle.wf_body.specs.Words.{AreFirstOutputs}
use Rattle.wf_body.proofs.pass.outs_by.Given as goal

-- the outputs so far
abbrev pub invariant-loop-o : goal.invariant-loop-o
invariant-loop-o l = record {
  below : AreFirstOutputs l.fn.from l.fn.k.0 l.ins l.rows l.o l.outs;
  room : length l.outs ≡ 64;
}
