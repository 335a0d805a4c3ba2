use Rattle.std.proofs.Common.{List, Bool, false, get_or, sym, ap, ◌∙◌}
use Rattle.wf_model.specs.View.{expands}
use Rattle.wf_view.specs.Held.{HeldView}
use Rattle.wf_view.proofs.Flagged.{flagged_is}
use Rattle.wf_view.proofs.view.View.marks.Goals as goal

pub returns : goal.returns
returns c = λ m.
    ap (λ (h : HeldView). expands h.core m) (sym c.self.view_is)
    ∙ (flagged_is c.self.inside.expanded.items m ∙ ap (λ (l : List Bool). get_or l m false) (sym c.as_slice.ensures.value))
