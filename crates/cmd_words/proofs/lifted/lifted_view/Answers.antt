use Rattle.std.proofs.Common.{◌≡◌, ◌⊎◌, None, codes, ap, subst}
use Rattle.wf_spec.specs.Held.{HeldGrammar}
use Rattle.wf_accept.specs.Accepted.{AcceptedValue}
use Rattle.wf_view.specs.Held.{HeldView}
use Rattle.words_model.specs.Lifting.{lift_view}
use Rattle.wf_lift.specs.Alike.{PerceiveAlike}
use Rattle.wf_lift.specs.WitnessText.{lifted_unsafe_text}
use Rattle.wf_message.specs.Endings.{end_of, Refused, NoMemory}
use Rattle.cmd_words.proofs.LiftedSafety.{lifted_declines, lifted_stands}
use Rattle.cmd_words.proofs.lifted.lifted_view.Goals as goal

pub returns-in-Ok-of-clause-lifted : goal.returns-in-Ok-of-clause-lifted
returns-in-Ok-of-clause-lifted c =
    let v = c.args.v.now in
    let a = c.args.automaton.now in
    let w = c.in-Ok-lift_view.view.core in
    let alike = subst (λ (h : HeldView). PerceiveAlike (lift_view a h.core) w) c.sight.ensures.view c.in-Ok-lift_view.ensures.alike in
    lifted_stands v.accepted.grammar.core v.view.core a w alike c.args.lifted.now.grammar.core c.requires.lifted c.in-Ok-of.safe
    (ap (λ (x : AcceptedValue). x.grammar.core) c.in-Ok-of.ensures.accepted) (ap (λ (h : HeldView). h.core) c.in-Ok-of.ensures.view) c.accepted-facts.ensures.safe

pub returns-in-Err-Unsafe-clause-declines : goal.returns-in-Err-Unsafe-clause-declines
returns-in-Err-Unsafe-clause-declines c =
    let v = c.args.v.now in
    let a = c.args.automaton.now in
    let w = c.in-Ok-lift_view.view.core in
    let x = c.in-Err-Unsafe.witness in
    let e = end_of c.unsafe_stop.result in
    let alike = subst (λ (h : HeldView). PerceiveAlike (lift_view a h.core) w) c.sight.ensures.view c.in-Ok-lift_view.ensures.alike in
    let told = subst (λ (h : HeldGrammar). (e ≡ NoMemory) ⊎ (e ≡ Refused (codes "auto") None (lifted_unsafe_text h.core a.states x))) c.grammar.ensures.grammar
    (subst (λ k. (e ≡ NoMemory) ⊎ (e ≡ Refused (codes "auto") None (lifted_unsafe_text c.grammar.result.now.core k x))) c.states.ensures.states c.unsafe_stop.ensures) in
    lifted_declines v.accepted.grammar.core v.view.core a w alike c.args.lifted.now.grammar.core c.requires.lifted c.args.lifted.now.ranking c.in-Err-Unsafe.field-0 x e
    c.grammar-ranks.ensures.accepted.ranked c.in-Err-Unsafe.ensures.refused c.in-Err-Unsafe.field-0-is told
