use Rattle.std.proofs.Common.{◌<◌, ◌∙◌, map, length, subst, sym, ap}
use Rattle.std.proofs.lemmas.Result.{IfOk-weaker}
use Rattle.wf_model.specs.Lists.{IsIn}
use Rattle.wf_spec.specs.Held.{HeldGrammar}
use Rattle.wf_view.specs.Held.{HeldView}
use Rattle.wf_package.specs.Parts.{given_part, loop_entry_of, made_by_place}
use Rattle.wf_package.proofs.BareGrammar.{shown_below}
use Rattle.wf_package.proofs.WholeTexts.{text_is}
use Rattle.wf_package.proofs.writing.text_with.Goals as goal

pub placed_pairs-requires-clause-in_range : goal.placed_pairs-requires-clause-in_range
placed_pairs-requires-clause-in_range c = λ m h.
    let below = shown_below _ _ _ _ c.requires.parts c.sight.ensures.safe.accepted.formed m (subst (IsIn m) c.deref.ensures.value h) in
    subst (λ (g : HeldGrammar). m < length g.core.modules) (sym c.sight.ensures.grammar) below

pub placed_loops-requires-clause-in_range : goal.placed_loops-requires-clause-in_range
placed_loops-requires-clause-in_range c = λ m h.
    let below = shown_below _ _ _ _ c.requires.parts c.sight.ensures.safe.accepted.formed m (subst (IsIn m) c.deref-2.ensures.value h) in
    subst (λ (g : HeldGrammar). m < length g.core.modules) (sym c.linear.ensures.grammar) below

pub returns : goal.returns
returns c =
    let g = c.args.v.now.accepted.grammar in
    let v = c.args.v.now.view in
    let ns = c.deref.result.now in
    let given =
    c.in_ok-given.ensures ∙ ap (λ (x : HeldGrammar). made_by_place (given_part x.core c.sight.result.view.now.core) 0 ns) c.sight.ensures.grammar ∙ ap (λ (x : HeldView). made_by_place (given_part g.core x.core) 0 ns) c.sight.ensures.view in
    IfOk-weaker c.text_of.result _ _ (λ text is.
    text_is g v c.args.parts.now.modules c.args.parts.now.productions c.requires.parts c.linear.result.grammar.now c.view.result.now ns c.deref-2.result.now c.as_slice-places.result.now
    c.args.grammar.now.core c.in_ok-given.given.items c.deref-3.result.now (map loop_entry_of c.in_ok-loops.loops.items) (map loop_entry_of c.deref-4.result.now) text.items
    c.linear.ensures.grammar c.view.ensures.view c.deref.ensures.value c.deref-2.ensures.value c.as_slice-places.ensures.value
    c.requires.grammar given c.in_ok-loops.ensures c.deref-3.ensures.value (ap (map loop_entry_of) c.deref-4.ensures.value) is) c.text_of.ensures
