use Rattle.std.proofs.Common.{◌∙◌, ◌++◌, ◌∷◌, [], ℕ, map, take, get_or, ap, sym}
use Rattle.std.proofs.lemmas.List.{take_all, map_more}
use Rattle.wf_model.specs.Grammar.{Production}
use Rattle.wf_spec.proofs.Tables.{get_in}
use Rattle.wf_package.specs.Parts.{production_part}
use Rattle.wf_package.proofs.productions.placed_productions.Goals as goal

pub placed_production-requires-clause-in_range : goal.placed_production-requires-clause-in_range
placed_production-requires-clause-in_range c = c.requires.in_range (get_or c.args.numbers.now c.loop-p.p-index 0) (get_in c.loop-p.p-index c.args.numbers.now 0 c.loop-p-test.true)

pub loop-p-preserved : goal.loop-p-preserved
loop-p-preserved c =
    let part : ℕ → Production = production_part c.args.g.now.core (λ m. get_or c.args.places.now m 0) in
    c.in_ok-push.ensures.items ∙ ap (λ l. l ++ c.in_ok-rule.rule ∷ []) c.loop-p.invariant ∙ ap (λ (r : Production). map part (take c.loop-p.p-index c.args.numbers.now) ++ r ∷ []) c.in_ok-rule.ensures
    ∙ sym (map_more part c.args.numbers.now c.loop-p.p-index 0 c.loop-p-test.true)

pub returns : goal.returns
returns c = c.loop-p.invariant ∙ ap (map (production_part c.args.g.now.core (λ m. get_or c.args.places.now m 0))) (take_all c.loop-p.p-index c.args.numbers.now c.loop-p-test.false)
