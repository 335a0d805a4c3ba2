use Rattle.std.proofs.Common.{List, Option, ℕ, ◌<◌, length, ap, sym, subst, arith}
use Rattle.std.proofs.lemmas.List.{length-map}
use Rattle.wf_body.specs.Matrices.{HaveRows}
use Rattle.wf_safe.proofs.Comparing.{body_rows}
use Rattle.label_trials.proofs.body_tests.pairs.Goals as goal

pub returns-clause-rows : goal.returns-clause-rows
returns-clause-rows c =
    let g = c.args.sight.grammar.now.core in
    let second : 1 < length g.productions = omega (arith, c.if-productions-lt2.false, length-map c.productions.result.now (λ p. p.core), ap length c.productions.ensures.productions) in
    subst (λ (rows : List (Option (List ℕ))). HaveRows g 1 rows) (sym c.deps.ensures)
    (body_rows g c.args.sight.view.now.core 1 c.args.full.now c.requires.full.each second (c.is_shown.ensures c.if-not-is_shown.false))
