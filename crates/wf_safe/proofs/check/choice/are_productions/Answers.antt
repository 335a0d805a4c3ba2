use Rattle.std.proofs.Common.{refl, sym, ◌∙◌, subst, ⊎_elim, true≢false}
use Rattle.std.proofs.lemmas.List.{take_all}
use Rattle.wf_model.specs.Grammar.{IsProductionOf}
use Rattle.wf_safe.specs.Choosing.{AreProductions}
use Rattle.wf_safe.specs.Witness.{chosen_in}
use Rattle.wf_safe.proofs.Choices.{chosen_more, chosen_next, known_for}
use Rattle.wf_safe.proofs.check.choice.are_productions.Goals as goal

pub returns-then-not-is_production_of : goal.returns-then-not-is_production_of
returns-then-not-is_production_of c = (
  λ t. absurd (true≢false (sym t)),
  λ h. sym c.if-not-is_production_of.true ∙ c.is_production_of.ensures.told.1 (h _ _ (chosen_next c.args.choice.now c.loop-c.c-index _ _ _ c.loop-c-test.true refl refl)),
)

pub loop-c-preserved : goal.loop-c-preserved
loop-c-preserved c = λ m p i.
    let g = c.args.g.now.core in
    let here = c.is_production_of.ensures.told.0 c.if-not-is_production_of.false in
    ⊎_elim (λ h. c.loop-c.invariant m p h) (λ e. known_for (λ k q. IsProductionOf g q k) _ m p e here)
    (chosen_more c.args.choice.now c.loop-c.c-index _ m p c.loop-c-test.true i)

pub returns : goal.returns
returns c =
    (λ t. subst (λ l. AreProductions c.args.g.now.core (chosen_in l)) (take_all c.loop-c.c-index c.args.choice.now c.loop-c-test.false) c.loop-c.invariant, λ h. refl)
