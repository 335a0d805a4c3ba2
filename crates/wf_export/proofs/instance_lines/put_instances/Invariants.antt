use Rattle.wf_export.proofs.Texts.{AddsFirst}
use Rattle.wf_export.proofs.InstanceLines.{numbered_line}
use Rattle.wf_export.proofs.instance_lines.put_instances.Given as goal

-- the lines of those so far
abbrev pub invariant-loop-k : goal.invariant-loop-k
invariant-loop-k g l = AddsFirst g.O.Sink.put_bytes g.O.Sink.faults g.O.Sink.at_last (numbered_line l.g.core l.view.core l.run.instances) l.shown.numbers l.k-index l.initial.due l.due l.initial.out l.out
