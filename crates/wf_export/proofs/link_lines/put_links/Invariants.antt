use Rattle.wf_export.proofs.Texts.{AddsFirst}
use Rattle.wf_export.specs.Shown.{instance_links_text}
use Rattle.wf_export.proofs.link_lines.put_links.Given as goal

-- the lines of the links of those so far
abbrev pub invariant-loop-k : goal.invariant-loop-k
invariant-loop-k g l =
    AddsFirst g.O.Sink.put_bytes g.O.Sink.faults g.O.Sink.at_last (instance_links_text l.g.core l.shown.marks l.rows l.run.instances) l.shown.numbers l.k-index l.initial.due l.due l.initial.out l.out
