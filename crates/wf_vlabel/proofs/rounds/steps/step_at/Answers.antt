use Rattle.std.proofs.Common.{◌∙◌, get_or, None, sym, ap, arith}
use Rattle.std.specs.Prelude.{option_map}
use Rattle.std.proofs.lemmas.Option.{none-some}
use Rattle.label_model.specs.Continuing.{continuing}
use Rattle.wf_recur.specs.Cycles.{OnSeen}
use Rattle.wf_recur.proofs.OneTable.{cycled}
use Rattle.wf_recur.proofs.Places.{place_below, step_told, place_told, place_from_first}
use Rattle.wf_vlabel.proofs.rounds.steps.step_at.Goals as goal
use Rattle.wf_vlabel.proofs.rounds.steps.step_at.Goals.{After-at}

pub on-requires : goal.on-requires
on-requires c =
    let low = place_below c.args.g.grammar.now.core c.args.g.cycles.now (cycled c.args.g.grammar.now.core c.modules-modules.ensures.formed c.args.g.linear c.args.g.cycles.now c.args.g.cycled) c.modules-modules.ensures.formed c.args.c.0 c.args.place c.requires.cycle c.requires.place in
    omega (arith, low, c.at.ensures, (cycled c.args.g.grammar.now.core c.modules-modules.ensures.formed c.args.g.linear c.args.g.cycles.now c.args.g.cycled).one_each)

pub returns-in-Some : goal.returns-in-Some
returns-in-Some c =
    let g = c.args.g.grammar.now.core in
    let t = c.args.g.cycles.now in
    let wf = c.modules-modules.ensures.formed in
    let low = place_below g t (cycled c.args.g.grammar.now.core c.modules-modules.ensures.formed c.args.g.linear c.args.g.cycles.now c.args.g.cycled) wf c.args.c.0 c.args.place c.requires.cycle c.requires.place in
    ap (continuing g) (place_from_first g t wf c.args.g.linear (cycled c.args.g.grammar.now.core c.modules-modules.ensures.formed c.args.g.linear c.args.g.cycles.now c.args.g.cycled) c.args.c.0 c.args.place c.requires.cycle c.requires.place ∙ sym c.at.ensures) ∙
    sym (step_told g t wf c.args.g.linear (cycled c.args.g.grammar.now.core c.modules-modules.ensures.formed c.args.g.linear c.args.g.cycles.now c.args.g.cycled) c.at.result.0 (omega (arith, low, c.at.ensures))) ∙ ap (option_map (λ (o : OnSeen). o.step)) (sym c.in-Some.ensures)

pub returns-in-None : goal.returns-in-None
returns-in-None c =
    let g = c.args.g.grammar.now.core in
    let t = c.args.g.cycles.now in
    let o = place_told g t c.modules-modules.ensures.formed c.args.g.linear (cycled c.args.g.grammar.now.core c.modules-modules.ensures.formed c.args.g.linear c.args.g.cycles.now c.args.g.cycled) c.args.c.0 c.args.place c.requires.cycle c.requires.place in
    absurd (none-some o.0 (c.in-None.ensures ∙ ap (λ m. get_or t.on m None) c.at.ensures ∙ o.1))
