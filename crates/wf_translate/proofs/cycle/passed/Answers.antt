use Rattle.std.proofs.Common.{◌≡◌, ◌+◌, ◌%◌, ◌<◌, length, get_or, sym, ap, ◌∙◌, subst, arith}
use Rattle.std.proofs.lemmas.Option.{none-some}
use Rattle.label_model.specs.Continuing.{after}
use Rattle.wf_recur.specs.Cycles.{on_of, round_at, StandsAt}
use Rattle.wf_recur.proofs.OneTable.{cycled}
use Rattle.wf_recur.proofs.Places.{after_below, stands_somewhere, place_after}
use Rattle.wf_translate.proofs.cycle.passed.Goals as goal
use Rattle.wf_translate.proofs.cycle.passed.Goals.{In-Some, After-at}

-- where the module stands
stands : (c : In-Some) → StandsAt c.args.g.grammar.now.core c.args.g.cycles.now c.args.m.0 (on_of c.in-Some.on)
stands c = (cycled c.args.g.grammar.now.core c.modules-modules.ensures.formed c.args.g.linear c.args.g.cycles.now c.args.g.cycled).on_one c.args.m.0 (on_of c.in-Some.on) (sym c.in-Some.ensures)

-- where the steps lead
leads : (c : After-at) → c.at.result.0 ≡ after c.args.g.grammar.now.core c.args.c c.args.m.0
leads c =
    let g = c.args.g.grammar.now.core in
    let t = c.args.g.cycles.now in
    let on = c.in-Some.on in
    let s = (cycled c.args.g.grammar.now.core c.modules-modules.ensures.formed c.args.g.linear c.args.g.cycles.now c.args.g.cycled).on_one c.args.m.0 (on_of on) (sym c.in-Some.ensures) in
    c.at.ensures ∙ ap (λ l. get_or (round_at t on.cycle.0) ((on.place + c.args.c) % l) 0) c.length-length.ensures ∙
    sym (place_after g t c.modules-modules.ensures.formed c.args.g.linear (cycled c.args.g.grammar.now.core c.modules-modules.ensures.formed c.args.g.linear c.args.g.cycles.now c.args.g.cycled) on.cycle.0 on.place c.args.c s.cycle s.place) ∙ ap (after g c.args.c) s.is

pub returns-in_default-clause-to : goal.returns-in_default-clause-to
returns-in_default-clause-to c =
    let o = stands_somewhere c.args.g.grammar.now.core c.args.g.cycles.now (cycled c.args.g.grammar.now.core c.modules-modules.ensures.formed c.args.g.linear c.args.g.cycles.now c.args.g.cycled) c.args.m.0 c.requires.module_no c.requires.on_cycle in
    absurd (none-some o.0 (c.in_default.ensures ∙ o.1))

pub length-length-requires : goal.length-length-requires
length-length-requires c = (stands (goal.at.length-length-requires c).In-Some).cycle

pub nonzero_rem-place : goal.nonzero_rem-place
nonzero_rem-place c = let s = (stands (goal.at.nonzero_rem-place c).In-Some).place in omega (arith, c.length-length.ensures)

pub prove-unreachable-requires : goal.prove-unreachable-requires
prove-unreachable-requires c =
    let s = (stands (goal.at.prove-unreachable-requires c).In-Some).place in
    let few = (cycled c.args.g.grammar.now.core c.modules-modules.ensures.formed c.args.g.linear c.args.g.cycles.now c.args.g.cycled).short c.in-Some.on.cycle.0 in
    omega (arith, c.length-length.ensures)

pub at-requires-clause-cycle : goal.at-requires-clause-cycle
at-requires-clause-cycle c = (stands (goal.at.at-requires-clause-cycle c).In-Some).cycle

pub at-requires-clause-place : goal.at-requires-clause-place
at-requires-clause-place c = let s = (stands (goal.at.at-requires-clause-place c).In-Some).place in omega (arith, c.length-length.ensures)

pub returns-clause-to : goal.returns-clause-to
returns-clause-to c = leads c

pub returns-clause-in_range : goal.returns-clause-in_range
returns-clause-in_range c = subst (λ k. k < length c.args.g.grammar.now.core.modules) (sym (leads c)) (after_below c.args.g.grammar.now.core c.modules-modules.ensures.formed c.args.c c.args.m.0 c.requires.module_no)
