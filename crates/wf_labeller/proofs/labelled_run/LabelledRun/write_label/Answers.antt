use Rattle.std.proofs.Common.{◌<◌, ◌≤◌, ◌-◌, ◌∷◌, [], List, length, map, get_or, ap, sym, subst, ◌∙◌}
use Rattle.std.proofs.lemmas.Result.{on_ok_weaker}
use Rattle.wf_labeller.specs.declared.group.Group.{Group}
use Rattle.wf_labeller.specs.Groups.{Labelled, IsThere, bits_by, end_of}
use Rattle.wf_labeller.proofs.Grouped.{all_counted, within, label_at, its_maker}
use Rattle.wf_labeller.proofs.labelled_run.LabelledRun.write_label.Goals as goal

pub group_with-i-requires : goal.group_with-i-requires
group_with-i-requires c =
    let item = c.args.item in
    subst (λ (l : List Group). item < get_or (0 ∷ map end_of l) (length l) 0) (sym c.deref.ensures.value)
    (subst (λ n. item < n) (sym (all_counted c.self.inside.run c.self.inside.groups.items c.self.invariant.ended)) (subst (λ (l : Labelled). item < length l.labels) (sym c.self.view_is) c.requires))

pub write_item-requires-clause-there : goal.write_item-requires-clause-there
write_item-requires-clause-there c =
    let r = c.self.inside.run in
    let i = c.group_with-i.result in
    let below = subst (λ (l : List Group). i < length l) c.deref.ensures.value c.group_with-i.ensures.there in
    let low = subst (λ (l : List Group). get_or (0 ∷ map end_of l) i 0 ≤ c.args.item) c.deref.ensures.value c.group_with-i.ensures.begun in
    let high = subst (λ (l : List Group). c.args.item < get_or (map end_of l) i 0) c.deref.ensures.value c.group_with-i.ensures.within in
    subst (λ (m : Group). IsThere r m.maker) (sym c.index.ensures)
    (its_maker r c.self.inside.groups.items c.self.invariant.ended i c.args.item c.index.result.now below low high c.self.inside.longest c.self.invariant)

pub write_item-requires-clause-in_range : goal.write_item-requires-clause-in_range
write_item-requires-clause-in_range c =
    let r = c.self.inside.run in
    let groups = c.self.inside.groups.items in
    let i = c.group_with-i.result in
    let below = subst (λ (l : List Group). i < length l) c.deref.ensures.value c.group_with-i.ensures.there in
    let low = subst (λ (l : List Group). get_or (0 ∷ map end_of l) i 0 ≤ c.args.item) c.deref.ensures.value c.group_with-i.ensures.begun in
    let high = subst (λ (l : List Group). c.args.item < get_or (map end_of l) i 0) c.deref.ensures.value c.group_with-i.ensures.within in
    let begun = c.begin_of.ensures ∙ ap (λ (l : List Group). get_or (0 ∷ map end_of l) i 0) c.deref-2.ensures.value in
    subst (λ n. c.args.item - n < length (bits_by r c.index.result.now.maker)) (sym begun)
    (subst (λ (m : Group). c.args.item - get_or (0 ∷ map end_of groups) i 0 < length (bits_by r m.maker)) (sym c.index.ensures) (within r groups c.self.invariant.ended i c.args.item c.index.result.now below low high))

pub returns : goal.returns
returns c =
    let r = c.self.inside.run in
    let groups = c.self.inside.groups.items in
    let i = c.group_with-i.result in
    let below = subst (λ (l : List Group). i < length l) c.deref.ensures.value c.group_with-i.ensures.there in
    let low = subst (λ (l : List Group). get_or (0 ∷ map end_of l) i 0 ≤ c.args.item) c.deref.ensures.value c.group_with-i.ensures.begun in
    let high = subst (λ (l : List Group). c.args.item < get_or (map end_of l) i 0) c.deref.ensures.value c.group_with-i.ensures.within in
    let begun = c.begin_of.ensures ∙ ap (λ (l : List Group). get_or (0 ∷ map end_of l) i 0) c.deref-2.ensures.value in
    on_ok_weaker c.write_item.result
    (λ e. e ∙ (ap (λ n. get_or (bits_by r c.index.result.now.maker) (c.args.item - n) []) begun ∙
    (ap (λ (m : Group). get_or (bits_by r m.maker) (c.args.item - get_or (0 ∷ map end_of groups) i 0) []) c.index.ensures ∙
    (label_at r groups c.self.invariant.ended i c.args.item c.index.result.now below low high ∙ ap (λ (l : Labelled). get_or l.labels c.args.item []) c.self.view_is))))
    c.write_item.ensures
