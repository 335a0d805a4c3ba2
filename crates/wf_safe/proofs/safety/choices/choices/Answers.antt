use Rattle.std.proofs.Common.{◌≡◌, ◌<◌, ◌+◌, ℕ, List, length, refl, ap, sym, subst, ◌∙◌, arith}
use Rattle.wf_model.specs.Grammar.{Module}
use Rattle.wf_model.specs.Safe.{IsChosen}
use Rattle.wf_safe.specs.declared.witness.Choice.{Choice}
use Rattle.wf_safe.specs.Inducing.{choice_of}
use Rattle.wf_safe.specs.Witness.{IsChoiceOf, chosen_in}
use Rattle.wf_safe.proofs.Choosing.{AreChosenBelow, none_chosen, next_chosen, not_chosen, choice_made}
use Rattle.wf_safe.proofs.SeenBelow.{seen_expanded_is, not_seen_expanded}
use Rattle.wf_view.proofs.KnownViews.{held}
use Rattle.wf_safe.proofs.safety.choices.choices.Goals as goal
use Rattle.wf_safe.proofs.safety.choices.choices.Goals.{then-is_seen_expanded+in_ok-push, else-is_seen_expanded}

pub loop-k-init : goal.loop-k-init
loop-k-init c =
    let g = c.args.v.grammar.now.core in
    let u = c.args.v.view.now.core in
    subst (λ (l : List Choice). AreChosenBelow g u c.args.proper.now 0 (chosen_in l)) (sym c.new-list.ensures.items) (none_chosen g u c.args.proper.now)

pub loop-k-preserved : goal.loop-k-preserved
loop-k-preserved c =
    let g = c.args.v.grammar.now.core in
    let v = c.args.v.view.now in
    let r = c.args.proper.now in
    let same = ap (λ (ms : List Module). length ms) c.modules-k-end.ensures.modules in
    let low : c.loop-k.k < length g.modules = omega arith in
    elim c.if-is_seen_expanded.branch [
      | then-is_seen_expanded+in_ok-push w ↦ subst (λ (l : List Choice). AreChosenBelow g v.core r (c.loop-k.k + 1) (chosen_in l)) (sym (ap (λ l. l.items) w.list-is ∙ w.in_ok-push.ensures.items))
          (next_chosen g v.core r c.loop-k.k c.loop-k.list.items _ c.loop-k.invariant ((seen_expanded_is g v c.loop-k.k (held c.args.v.grammar.now.core c.args.v.view.now c.args.v.held) low).0 (sym c.is_seen_expanded.ensures ∙ w.if-is_seen_expanded.true)) refl w.choice-production.ensures)
      | else-is_seen_expanded w ↦ subst (λ (l : List Choice). AreChosenBelow g v.core r (c.loop-k.k + 1) (chosen_in l)) (sym (ap (λ l. l.items) w.list-is))
          (not_chosen g v.core r c.loop-k.k (chosen_in c.loop-k.list.items) c.loop-k.invariant (not_seen_expanded g v c.loop-k.k (held c.args.v.grammar.now.core c.args.v.view.now c.args.v.held) low (sym c.is_seen_expanded.ensures ∙ w.if-is_seen_expanded.false)))
    ]

pub returns-clause-choice : goal.returns-clause-choice
returns-clause-choice c =
    let g = c.args.v.grammar.now.core in
    let v = c.args.v.view.now in
    let r = c.args.proper.now in
    let same = ap (λ (ms : List Module). length ms) c.modules-k-end.ensures.modules in
    let all : c.loop-k.k ≡ length g.modules = omega arith in
    subst (λ (l : List Choice). IsChoiceOf g v.core (chosen_in l)) (sym c.from_vec.ensures)
    (choice_made g v r (chosen_in c.loop-k.list.items) c.modules-k-end.ensures.formed c.requires.ranking (held c.args.v.grammar.now.core c.args.v.view.now c.args.v.held)
    (subst (λ n. AreChosenBelow g v.core r n (chosen_in c.loop-k.list.items)) all c.loop-k.invariant))

pub returns-clause-ranked : goal.returns-clause-ranked
returns-clause-ranked c = subst (λ (l : List Choice). (m p : ℕ) → IsChosen (chosen_in l) m p → p ≡ choice_of c.args.proper.now m) (sym c.from_vec.ensures) c.loop-k.invariant.ranked
