use Rattle.std.proofs.Common.{◌∙◌, ap, sym, length, List}
use Rattle.std.proofs.lemmas.List.{length-map}
use Rattle.wf_model.specs.Grammar.{Production}
use Rattle.wf_model.specs.Meaning.{pairs_of}
use Rattle.wf_spec.specs.Held.{HeldProduction}
use Rattle.wf_vlabel.specs.Growing.{IsBodyGroup}
use Rattle.wf_vlabel.proofs.BodyGroups.{bodies_are, bodies_stay}
use Rattle.wf_vlabel.proofs.Grouping.{groups_push, groups_end}
use Rattle.wf_vlabel.proofs.bodies.body_groups.Goals as goal
use Rattle.wf_vlabel.specs.RoundSteps.{numbers_in}

pub loop-k-preserved : goal.loop-k-preserved
loop-k-preserved c =
    let g = c.args.s.linear.grammar.now.core in
    let u = c.args.s.view.now.core in
    let d = pairs_of c.args.full.now in
    groups_push (IsBodyGroup g u d) c.loop-k.k c.loop-k.pool c.push_shown.new.pool c.loop-k.first.items c.push.new.self.items c.in_ok-number.number
    (bodies_stay g u d) c.loop-k.invariant c.in_ok-number.ensures.grown c.in_ok-number.ensures.group c.in_ok-push.ensures.items

pub returns : goal.returns
returns c =
    let g = c.args.s.linear.grammar.now.core in
    let u = c.args.s.view.now.core in
    let d = pairs_of c.args.full.now in
    let count = sym (length-map c.productions-k-end.result.now (λ (p : HeldProduction). p.core)) ∙ ap (λ (ps : List Production). length ps) c.productions-k-end.ensures.productions in
    bodies_are g u d c.of_pool.result
    (groups_end (IsBodyGroup g u d) c.loop-k.k (length c.productions-k-end.result.now) (length g.productions) c.loop-k.pool (numbers_in c.loop-k.first.items) c.of_pool.result
    c.loop-k.auto.k-end c.loop-k-test.false count c.of_pool.ensures.pool c.of_pool.ensures.first c.loop-k.invariant)
