use Rattle.std.proofs.Common.{List, Option, ℕ, sym, subst}
use Rattle.wf_body.specs.Matrices.{HaveRows}
use Rattle.wf_safe.proofs.Comparing.{body_rows}
use Rattle.wf_vlabel.proofs.bodies.push_shown.Goals as goal

pub push_body-requires-clause-rows : goal.push_body-requires-clause-rows
push_body-requires-clause-rows c =
    let g = c.args.s.linear.grammar.now.core in
    subst (λ (rows : List (Option (List ℕ))). HaveRows g c.args.p.0 rows) (sym c.deps.ensures)
    (body_rows g c.args.s.view.now.core c.args.p.0 c.args.full.now c.requires.rows.each c.requires.production (c.is_shown.ensures.0 c.if-not-is_shown.false))
