use Rattle.std.proofs.Common.{List, Bool, false, get_or, sym, ap, ◌∙◌}
use Rattle.wf_model.specs.View.{expands}
use Rattle.wf_view.specs.Held.{HeldView}
use Rattle.wf_view.proofs.Flagged.{flagged_is}
use Rattle.wf_view.proofs.view.View.expanded.Goals as goal

pub returns : goal.returns
returns c = c.is_flagged.ensures ∙ (ap (λ (l : List Bool). get_or l c.args.m.0 false) c.as_slice.ensures.value ∙ (sym (flagged_is c.self.inside.expanded.items c.args.m.0) ∙ ap (λ (h : HeldView). expands h.core c.args.m.0) c.self.view_is))
