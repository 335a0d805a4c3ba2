use Rattle.std.proofs.Common.{length, ap, sym, ◌∙◌}
use Rattle.wf_labeller.proofs.Cutting.{length-pieces}
use Rattle.wf_labeller.proofs.labels.Labels.count.Goals as goal

pub returns : goal.returns
returns c = c.len.ensures ∙ c.self.inside.ends.ok.0 ∙ (sym (length-pieces c.self.inside.bytes.items 0 c.self.inside.ends.items) ∙ ap length c.self.view_is)
