use Rattle.std.proofs.Common.{◌∷◌, List, length, map, get_or, ap, sym, ◌∙◌}
use Rattle.wf_labeller.specs.declared.group.Group.{Group}
use Rattle.wf_labeller.specs.Groups.{Labelled, end_of}
use Rattle.wf_labeller.proofs.Grouped.{all_counted}
use Rattle.wf_labeller.proofs.labelled_run.LabelledRun.items.Goals as goal

pub returns : goal.returns
returns c =
    let groups = c.self.inside.groups.items in
    let count = c.len.ensures ∙ (sym c.deref.ensures.len ∙ ap (λ (l : List Group). length l) c.deref.ensures.value) in
    c.begin_of.ensures ∙ (ap (λ (l : List Group). get_or (0 ∷ map end_of l) c.len.result 0) c.deref.ensures.value ∙ (ap (λ n. get_or (0 ∷ map end_of groups) n 0) count ∙
    (all_counted c.self.inside.run groups c.self.invariant.ended ∙ ap (λ (l : Labelled). length l.labels) c.self.view_is)))
