use Rattle.std.proofs.Common.{◌≡◌, sym, subst}
use Rattle.std.proofs.lemmas.Result.{IfErr-weaker, err_from_is_err_and}
use Rattle.wf_model.specs.Safe.{IsSafe}
use Rattle.wf_spec.specs.Held.{HeldGrammar}
use Rattle.wf_accept.specs.Accepted.{AcceptedValue}
use Rattle.wf_view.specs.Held.{HeldView}
use Rattle.wf_view.specs.Rules.{IsViewed}
use Rattle.wf_view.specs.Viewing.{view_of}
use Rattle.wf_message.specs.Endings.{end_of}
use Rattle.wf_stage.specs.Stages.{OfWhole, Declines}
use Rattle.wf_inputs.specs.ViewTold.{TellsView, RefusesViewParts, RefusesUnsafe, RefusesView}
use Rattle.wf_stage.proofs.Stages.{declines_by, handed_on}
use Rattle.wf_stage.proofs.Reading.{IfOk-and}
use Rattle.wf_inputs.proofs.ViewSteps.{refuses_by_parts, refuses_by_view, told_view}
use Rattle.wf_inputs.proofs.view.view_of_bytes.Goals as goal

pub returns-in_err-parts-clause-declines : goal.returns-in_err-parts-clause-declines
returns-in_err-parts-clause-declines c =
    let g = c.args.accepted.now.grammar.core in
    handed_on c.args.place.word.now (OfWhole (RefusesView g) c.args.bytes.now) c.from_residual.result c.in_err-parts.field-0.0 (err_from_is_err_and c.from_residual.result c.from_residual.ensures.1) (c.in_err-parts.ensures.declines g)

pub returns-in_err-view-clause-declines : goal.returns-in_err-view-clause-declines
returns-in_err-view-clause-declines c =
    let g = c.args.accepted.now.grammar.core in
    handed_on c.args.place.word.now (OfWhole (RefusesView g) c.args.bytes.now) c.from_residual-in_err-view.result c.in_err-view.field-0.0 (err_from_is_err_and c.from_residual-in_err-view.result c.from_residual-in_err-view.ensures.1)
    (declines_by c.args.place.word.now (OfWhole (RefusesViewParts g) c.in_ok-parts.parts) (OfWhole (RefusesView g) c.args.bytes.now) (λ line fault h. (h.0, refuses_by_parts g c.args.bytes.now c.in_ok-parts.parts c.in_ok-parts.ensures.ok fault h.1)) _
    (subst (λ (h : HeldGrammar). Declines c.args.place.word.now (OfWhole (RefusesViewParts h.core) c.in_ok-parts.parts) (end_of c.in_err-view.field-0.0)) c.grammar.ensures.grammar c.in_err-view.ensures.declines))

pub returns-clause-ok : goal.returns-clause-ok
returns-clause-ok c =
    let g = c.args.accepted.now.grammar.core in
    let viewed = subst (λ (h : HeldGrammar). (c.in_ok-view.view.core ≡ view_of h.core c.in_ok-parts.parts) × IsViewed h.core c.in_ok-parts.parts) c.grammar.ensures.grammar c.in_ok-view.ensures.ok in
    IfOk-and c.safe_view.result _ _ _
    (λ v t k. subst (λ (u : HeldView). TellsView g c.args.bytes.now u.core) (sym t.1) (told_view g c.args.bytes.now c.in_ok-parts.parts c.in_ok-parts.ensures.ok c.in_ok-view.view.core viewed
    (subst (λ (u : HeldView). IsSafe g u.core) t.1 (subst (λ (a : AcceptedValue). IsSafe a.grammar.core v.view.core) t.0 k.safe))))
    c.safe_view.ensures.ok c.safe_view.ensures.safe

pub returns-clause-declines : goal.returns-clause-declines
returns-clause-declines c =
    let g = c.args.accepted.now.grammar.core in
    let viewed = subst (λ (h : HeldGrammar). (c.in_ok-view.view.core ≡ view_of h.core c.in_ok-parts.parts) × IsViewed h.core c.in_ok-parts.parts) c.grammar.ensures.grammar c.in_ok-view.ensures.ok in
    IfErr-weaker c.safe_view.result _ _
    (λ e d. declines_by c.args.place.word.now (OfWhole (RefusesUnsafe g) c.in_ok-view.view.core) (OfWhole (RefusesView g) c.args.bytes.now) (λ line fault h. (h.0, refuses_by_view g c.args.bytes.now c.in_ok-parts.parts c.in_ok-parts.ensures.ok c.in_ok-view.view.core viewed fault h.1)) (end_of e) d)
    c.safe_view.ensures.declines
