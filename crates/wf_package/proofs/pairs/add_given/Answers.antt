use Rattle.std.proofs.Common.{◌≡◌, ◌∙◌, ◌++◌, ◌∷◌, [], List, false, sym, ap, subst, append-nil, arith}
use Rattle.wf_model.specs.Grammar.{Given}
use Rattle.wf_model.specs.View.{expands}
use Rattle.wf_view.specs.Held.{AreShownRows}
use Rattle.wf_view.proofs.KnownViews.{held}
use Rattle.wf_package.proofs.GivenParts.{given_none, given_some, given_is}
use Rattle.wf_package.proofs.pairs.add_given.Goals as goal

pub pairs_in_rows-requires-clause-rows : goal.pairs_in_rows-requires-clause-rows
pairs_in_rows-requires-clause-rows c =
    let g = c.args.v.grammar.now.core in
    let v = c.args.v.view.now in
    let shut : expands v.core c.args.m.0 ≡ false = sym c.expanded.ensures ∙ c.if-expanded.false in
    let shown = subst (AreShownRows g v.core c.args.m.0) (sym c.shown_rows-rows.ensures) ((held g v c.args.v.held).rows c.args.m.0 c.requires shut) in
    omega (arith, shown.one_each, c.input_count-inputs.ensures.count, c.input_count-inputs.ensures.few)

pub returns-then-are_full : goal.returns-then-are_full
returns-then-are_full c =
    let g = c.args.v.grammar.now.core in
    let v = c.args.v.view.now in
    let shut : expands v.core c.args.m.0 ≡ false = sym c.expanded.ensures ∙ c.if-expanded.false in
    let shown = subst (AreShownRows g v.core c.args.m.0) (sym c.shown_rows-rows.ensures) ((held g v c.args.v.held).rows c.args.m.0 c.requires shut) in
    let none = given_none g v.core c.args.m.0 c.shown_rows-rows.result.now c.output_count-outputs.result shown c.output_count-outputs.ensures.count c.args.k shut (sym c.are_full.ensures ∙ c.if-are_full.true) in
    sym (ap (λ (l : List Given). c.args.given.now.items ++ l) none ∙ append-nil c.args.given.now.items)

pub returns : goal.returns
returns c =
    let g = c.args.v.grammar.now.core in
    let v = c.args.v.view.now in
    let shut : expands v.core c.args.m.0 ≡ false = sym c.expanded.ensures ∙ c.if-expanded.false in
    let shown = subst (AreShownRows g v.core c.args.m.0) (sym c.shown_rows-rows.ensures) ((held g v c.args.v.held).rows c.args.m.0 c.requires shut) in
    let some = given_some g v.core c.args.m.0 c.shown_rows-rows.result.now c.output_count-outputs.result shown c.output_count-outputs.ensures.count c.args.k shut (sym c.are_full.ensures ∙ c.if-are_full.false) in
    c.in_ok-push.ensures.items
    ∙ ap (λ (d : Given). c.args.given.now.items ++ d ∷ []) (given_is c.new.result c.args.k _ c.new.ensures.module_no (c.new.ensures.pairs ∙ c.in_ok-pairs.ensures))
    ∙ ap (λ (l : List Given). c.args.given.now.items ++ l) (sym some)
