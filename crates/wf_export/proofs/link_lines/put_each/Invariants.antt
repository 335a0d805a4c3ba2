use Rattle.wf_export.proofs.Texts.{AddsFirst}
use Rattle.wf_export.specs.Shown.{held_link_line}
use Rattle.wf_export.proofs.link_lines.put_each.Given as goal

-- the lines of those so far
abbrev pub invariant-loop-link : goal.invariant-loop-link
invariant-loop-link g l = AddsFirst g.O.Sink.put_bytes g.O.Sink.faults g.O.Sink.at_last (held_link_line l.g.core l.instances) l.links l.link-index l.initial.due l.due l.initial.out l.out
