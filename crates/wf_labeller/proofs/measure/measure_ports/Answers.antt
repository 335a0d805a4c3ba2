use Rattle.std.proofs.Common.{ap, ◌∙◌}
use Rattle.std.specs.Prelude.{max}
use Rattle.label_model.specs.Labels.{label_bits}
use Rattle.wf_labeller.specs.Entries.{port_label}
use Rattle.wf_labeller.proofs.Measured.{longest_more}
use Rattle.wf_labeller.proofs.measure.measure_ports.Goals as goal

pub loop-k-preserved : goal.loop-k-preserved
loop-k-preserved c = longest_more (λ j. label_bits (port_label c.args.side j)) c.loop-k.k _ _ _ c.loop-k.invariant c.in_ok-write_port.ensures.ok (c.longer-longest.ensures ∙ ap (λ n. max n c.loop-k.longest) c.length.ensures)
