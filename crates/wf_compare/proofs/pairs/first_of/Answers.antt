use Rattle.std.proofs.Common.{sym, ◌∙◌, subst, arith}
use Rattle.wf_model.specs.Meaning.{pairs_of}
use Rattle.wf_view.specs.Held.{AreShownRows}
use Rattle.wf_view.proofs.KnownViews.{held}
use Rattle.wf_compare.proofs.BorderPairs.{border_from, not_border, full_stand, shown_stand, denied_told, added_told}
use Rattle.wf_compare.proofs.pairs.first_of.Goals as goal

pub returns-then-not-is_border : goal.returns-then-not-is_border
returns-then-not-is_border c =
    let g = c.args.coarse.grammar.now.core in
    let v = c.args.coarse.view.now in
    not_border c.args.way g v (pairs_of c.args.full.now) c.args.m.0 (held g v c.args.coarse.held) c.requires.in_range (sym c.is_border.ensures ∙ c.if-not-is_border.true)

pub rows-fine-requires : goal.rows-fine-requires
rows-fine-requires c =
    let g = c.args.coarse.grammar.now.core in
    let v = c.args.coarse.view.now in
    let border = border_from g v c.args.m.0 (held g v c.args.coarse.held) c.requires.in_range (sym c.is_border.ensures ∙ c.if-not-is_border.false) in
    (g, c.requires.rows c.args.m.0 border.0)

pub first_more-requires-clause-same : goal.first_more-requires-clause-same
first_more-requires-clause-same c =
    let g = c.args.coarse.grammar.now.core in
    let v = c.args.coarse.view.now in
    let h = held g v c.args.coarse.held in
    let border = border_from g v c.args.m.0 h c.requires.in_range (sym c.is_border.ensures ∙ c.if-not-is_border.false) in
    let a = full_stand g c.args.full.now c.args.m.0 c.rows-fine.result.now (c.requires.rows c.args.m.0 border.0) c.rows-fine.ensures in
    let b = shown_stand g v.core c.args.m.0 c.shown_rows-shown.result.now (subst (AreShownRows g v.core c.args.m.0) (sym c.shown_rows-shown.ensures) (h.rows c.args.m.0 c.requires.in_range border.1)) in
    a.one_each ∙ sym b.one_each

pub first_more-requires-clause-few : goal.first_more-requires-clause-few
first_more-requires-clause-few c =
    let g = c.args.coarse.grammar.now.core in
    let v = c.args.coarse.view.now in
    let h = held g v c.args.coarse.held in
    let border = border_from g v c.args.m.0 h c.requires.in_range (sym c.is_border.ensures ∙ c.if-not-is_border.false) in
    let a = full_stand g c.args.full.now c.args.m.0 c.rows-fine.result.now (c.requires.rows c.args.m.0 border.0) c.rows-fine.ensures in
    let e = a.one_each in
    let n = c.input_count-inputs.ensures.count in
    let few = c.input_count-inputs.ensures.few in
    omega arith

pub first_more-requires-in-Added-clause-same : goal.first_more-requires-in-Added-clause-same
first_more-requires-in-Added-clause-same c =
    let g = c.args.coarse.grammar.now.core in
    let v = c.args.coarse.view.now in
    let h = held g v c.args.coarse.held in
    let border = border_from g v c.args.m.0 h c.requires.in_range (sym c.is_border.ensures ∙ c.if-not-is_border.false) in
    let a = full_stand g c.args.full.now c.args.m.0 c.rows-fine.result.now (c.requires.rows c.args.m.0 border.0) c.rows-fine.ensures in
    let b = shown_stand g v.core c.args.m.0 c.shown_rows-shown.result.now (subst (AreShownRows g v.core c.args.m.0) (sym c.shown_rows-shown.ensures) (h.rows c.args.m.0 c.requires.in_range border.1)) in
    b.one_each ∙ sym a.one_each

pub first_more-requires-in-Added-clause-few : goal.first_more-requires-in-Added-clause-few
first_more-requires-in-Added-clause-few c =
    let g = c.args.coarse.grammar.now.core in
    let v = c.args.coarse.view.now in
    let h = held g v c.args.coarse.held in
    let border = border_from g v c.args.m.0 h c.requires.in_range (sym c.is_border.ensures ∙ c.if-not-is_border.false) in
    let b = shown_stand g v.core c.args.m.0 c.shown_rows-shown.result.now (subst (AreShownRows g v.core c.args.m.0) (sym c.shown_rows-shown.ensures) (h.rows c.args.m.0 c.requires.in_range border.1)) in
    let e = b.one_each in
    let n = c.input_count-inputs.ensures.count in
    let few = c.input_count-inputs.ensures.few in
    omega arith

pub returns-in-Denied : goal.returns-in-Denied
returns-in-Denied c =
    let g = c.args.coarse.grammar.now.core in
    let v = c.args.coarse.view.now in
    let h = held g v c.args.coarse.held in
    let border = border_from g v c.args.m.0 h c.requires.in_range (sym c.is_border.ensures ∙ c.if-not-is_border.false) in
    let a = full_stand g c.args.full.now c.args.m.0 c.rows-fine.result.now (c.requires.rows c.args.m.0 border.0) c.rows-fine.ensures in
    let b = shown_stand g v.core c.args.m.0 c.shown_rows-shown.result.now (subst (AreShownRows g v.core c.args.m.0) (sym c.shown_rows-shown.ensures) (h.rows c.args.m.0 c.requires.in_range border.1)) in
    denied_told g v.core (pairs_of c.args.full.now) c.args.m.0 border c.rows-fine.result.now c.shown_rows-shown.result.now a b c.args.way c.in-Denied.is c.first_more.result c.first_more.ensures

pub returns-in-Added : goal.returns-in-Added
returns-in-Added c =
    let g = c.args.coarse.grammar.now.core in
    let v = c.args.coarse.view.now in
    let h = held g v c.args.coarse.held in
    let border = border_from g v c.args.m.0 h c.requires.in_range (sym c.is_border.ensures ∙ c.if-not-is_border.false) in
    let a = full_stand g c.args.full.now c.args.m.0 c.rows-fine.result.now (c.requires.rows c.args.m.0 border.0) c.rows-fine.ensures in
    let b = shown_stand g v.core c.args.m.0 c.shown_rows-shown.result.now (subst (AreShownRows g v.core c.args.m.0) (sym c.shown_rows-shown.ensures) (h.rows c.args.m.0 c.requires.in_range border.1)) in
    added_told g v.core (pairs_of c.args.full.now) c.args.m.0 border c.rows-fine.result.now c.shown_rows-shown.result.now a b c.args.way c.in-Added.is c.first_more-in-Added.result c.first_more-in-Added.ensures
