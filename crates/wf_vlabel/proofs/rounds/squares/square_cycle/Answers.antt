use Rattle.std.proofs.Common.{◌<◌, ◌+◌, sym, ap, ◌∙◌, subst, refl, arith, length, Some, length-set}
use Rattle.std.proofs.lemmas.List.{map-set, length-map}
use Rattle.std.specs.Prelude.{option_map}
use Rattle.label_model.specs.Continuing.{after}
use Rattle.bool_mat.specs.declared.pool.MatNo.{MatNo}
use Rattle.wf_recur.specs.Cycles.{round_at, least_of}
use Rattle.wf_recur.proofs.OneTable.{cycled}
use Rattle.wf_recur.proofs.Places.{place_below, place_back}
use Rattle.wf_vlabel.specs.declared.rounds.way.Way.TheVariants.{Down, Up}
use Rattle.wf_vlabel.specs.ChainMatrices.{AreParts}
use Rattle.wf_vlabel.specs.RoundSteps.{numbers_in}
use Rattle.wf_vlabel.proofs.SquaredCycle.{SquaredSoFar, squared_none, squared_more}
use Rattle.wf_vlabel.proofs.rounds.squares.square_cycle.Goals as goal

pub loop-place-init : goal.loop-place-init
loop-place-init c = (refl, squared_none c.args.g.grammar.now.core c.args.g.cycles.now c.args.bodies.now c.args.c.0 c.length-size.result _ _ c.args.squares.now (numbers_in c.args.first.now) c.length-size.ensures c.in_ok-down.ensures c.in_ok-up.ensures)

pub push_squares-requires-clause-parts : goal.push_squares-requires-clause-parts
push_squares-requires-clause-parts c =
    let g = c.args.g.grammar.now.core in
    let t = c.args.g.cycles.now in
    let m = least_of (round_at t c.args.c.0) in
    let d = c.requires.steps.0 in
    let v = c.loop-place.invariant.1 in
    let e = sym c.length-size.ensures in (
      g,
      d,
      m,
      ap (λ z. after g z m) c.length-size.ensures ∙ place_back g t c.modules-modules.ensures.formed c.args.g.linear (cycled c.args.g.grammar.now.core c.modules-modules.ensures.formed c.args.g.linear c.args.g.cycles.now c.args.g.cycled) c.args.c.0 0 c.requires.cycle ((cycled c.args.g.grammar.now.core c.modules-modules.ensures.formed c.args.g.linear c.args.g.cycles.now c.args.g.cycled).rounds c.args.c.0 c.requires.cycle).whole.0,
      subst (λ z. AreParts Down g d m z c.loop-place.down) e (v.downs d c.requires.steps.1),
      subst (λ z. AreParts Up g d m z c.loop-place.up) e (v.ups d c.requires.steps.1),
    )

pub bounds-first-at : goal.bounds-first-at
bounds-first-at c =
    let low = place_below c.args.g.grammar.now.core c.args.g.cycles.now (cycled c.args.g.grammar.now.core c.modules-modules.ensures.formed c.args.g.linear c.args.g.cycles.now c.args.g.cycled) c.modules-modules.ensures.formed c.args.c.0 c.loop-place.place c.requires.cycle (omega (arith, c.length-size.ensures)) in
    omega (arith, low, c.at.ensures, c.loop-place.invariant.0, c.requires.count)

pub loop-place-preserved : goal.loop-place-preserved
loop-place-preserved c =
    let g = c.args.g.grammar.now.core in
    let t = c.args.g.cycles.now in
    let v = c.loop-place.invariant in
    let l = length-map c.loop-place.first (option_map (λ (n : MatNo). n.0)) in
    let inside : c.at.result.0 < length (numbers_in c.loop-place.first) = omega (arith, bounds-first-at c, l) in (
      length-set c.loop-place.first c.at.result.0 _ ∙ v.0,
      subst (λ z. SquaredSoFar g t c.args.bodies.now c.args.c.0 (c.loop-place.place + 1) c.args.squares.now (numbers_in c.args.first.now) c.push_squares.new.down c.push_squares.new.up c.push_squares.new.squares z)
          (sym (map-set (option_map (λ (n : MatNo). n.0)) c.loop-place.first c.at.result.0 (Some c.in_ok-n.n)))
          (squared_more g t c.args.bodies.now c.args.c.0 c.loop-place.place c.length-size.result c.at.result.0 c.in_ok-n.n.0 _ _ _ _ _ _ _ _ (numbers_in c.loop-place.first) c.modules-modules.ensures.formed c.args.g.linear (cycled c.args.g.grammar.now.core c.modules-modules.ensures.formed c.args.g.linear c.args.g.cycles.now c.args.g.cycled) c.requires.cycle c.length-size.ensures c.loop-place-test.true c.at.ensures inside c.in_ok-n.ensures.down c.in_ok-n.ensures.up c.in_ok-n.ensures.added c.in_ok-n.ensures.squares v.1),
    )
