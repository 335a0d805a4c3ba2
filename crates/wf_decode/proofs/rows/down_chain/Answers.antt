use Rattle.std.proofs.Common.{◌≡◌, ◌∙◌, ◌/◌, ◌%◌, Bool, true, false, length, not, sym, ap}
use Rattle.wf_recur.specs.Cycles.{CyclesSeen, round_at}
use Rattle.wf_decode.specs.HeldLegs.{is_whole}
use Rattle.wf_decode.proofs.WholeCycles.{whole_told}
use Rattle.wf_decode.proofs.OpenLegs.{opens_part, opens_round, opens_rest}
use Rattle.wf_decode.proofs.ChainRows.{part_down, whole_down}
use Rattle.wf_decode.proofs.rows.down_chain.Given.{Over}
use Rattle.wf_decode.proofs.rows.down_chain.Goals as goal
use Rattle.wf_decode.proofs.rows.down_chain.Goals.{After-is_some}

-- what the test for a cut tells
told : (g : Over) (c : After-is_some g) → (b : Bool) → c.is_some.result ≡ b → is_whole c.args.vl.now c.args.cycle.0 ≡ not b
told g c b e = whole_told c.args.vl.now c.cycles-cycles.ensures.label c.args.cycle.0 c.args.place c.requires.0.0 c.requires.0.1 c.cut.result c.cut.ensures b (sym c.is_some.ensures ∙ e)

pub continuing_down-requires-clause-open : goal.continuing_down-requires-clause-open
continuing_down-requires-clause-open g c = opens_part c.args.vl.now c.args.cycle c.args.place c.args.count c.requires (told g (goal.at.continuing_down-requires-clause-open g c).After-is_some true c.if-is_some.true)

pub returns-then-is_some : goal.returns-then-is_some
returns-then-is_some g c = part_down c.args.vl.now c.args.cycle c.args.place c.args.count c.args.row c.continuing_down.result c.args.steps.now c.continuing_down.new.steps (told g (goal.at.returns-then-is_some g c).After-is_some true c.if-is_some.true) c.continuing_down.ensures

pub whole_rounds-row-requires-clause-round : goal.whole_rounds-row-requires-clause-round
whole_rounds-row-requires-clause-round g c = opens_round c.args.vl.now c.args.cycle c.args.place c.args.count c.requires (told g (goal.at.whole_rounds-row-requires-clause-round g c).After-is_some false c.if-is_some.false)

pub continuing_down-requires-2-clause-open : goal.continuing_down-requires-2-clause-open
continuing_down-requires-2-clause-open g c = opens_rest c.args.vl.now c.args.cycle c.args.place c.args.count c.requires (told g (goal.at.continuing_down-requires-2-clause-open g c).After-is_some false c.if-is_some.false) _ (c.turns-turned.ensures.rest ∙ ap (λ n. c.args.count % n) (c.length-length.ensures ∙ ap (λ (t : CyclesSeen). length (round_at t c.args.cycle.0)) c.cycles-cycles.ensures.cycles))

pub returns : goal.returns
returns g c =
    let size = (c.length-length.ensures ∙ ap (λ (t : CyclesSeen). length (round_at t c.args.cycle.0)) c.cycles-cycles.ensures.cycles) in
    whole_down c.args.vl.now c.args.cycle c.args.place c.args.count c.args.row c.turns-turned.result.0 c.turns-turned.result.1 c.whole_rounds-row.result c.continuing_down-2.result c.args.steps.now c.whole_rounds-row.new.steps c.continuing_down-2.new.steps
    c.requires.0.1 (c.turns-turned.ensures.rounds ∙ ap (λ n. c.args.count / n) size) (c.turns-turned.ensures.rest ∙ ap (λ n. c.args.count % n) size) (told g (goal.at.returns g c).After-is_some false c.if-is_some.false) c.whole_rounds-row.ensures c.continuing_down-2.ensures
