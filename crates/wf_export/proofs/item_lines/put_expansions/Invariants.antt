use Rattle.wf_export.proofs.Texts.{AddsFirst}
use Rattle.wf_export.specs.Shown.{expansion_lines}
use Rattle.wf_export.proofs.item_lines.put_expansions.Given as goal

-- the lines of those so far
abbrev pub invariant-loop-o : goal.invariant-loop-o
invariant-loop-o g l = AddsFirst g.O.Sink.put_bytes g.O.Sink.faults g.O.Sink.at_last (expansion_lines l.g.core l.run.instances l.shown.opens) l.run.order l.o-index l.initial.due l.due l.initial.out l.out
