use Rattle.std.proofs.Common.{◌≡◌, ◌<◌, ◌%◌, ◌+◌, ℕ, Option, Some, None, length, get_or, arith, ap, ◌∙◌, sym}
use Rattle.std.proofs.Math.Nat.{mod-lt}
use Rattle.wf_model.specs.Linear.{Continues}
use Rattle.label_model.proofs.ContinuingSteps.{continuing_is}
use Rattle.wf_recur.specs.Cycles.{OnSeen, CyclesSeen, on_of, round_at}
use Rattle.wf_decode.specs.HeldLegs.{module_on, step_by}
use Rattle.wf_recur.proofs.Places.{place_below, place_told}
use Rattle.wf_decode.proofs.rows.continuing.continuing_step.Goals as goal
use Rattle.wf_decode.proofs.rows.continuing.continuing_step.Goals.{After-at}

-- the place so many further on
abbrev at : (c : After-at) → ℕ
at c = (c.args.place + c.args.further) % length (round_at c.args.vl.now.cycles c.args.cycle.0)

within : (c : After-at) → at c < length (round_at c.args.vl.now.cycles c.args.cycle.0)
within c = let low = c.requires.place in mod-lt (c.args.place + c.args.further) (omega arith)

-- the module that stands there
module_is : (c : After-at) → c.at.result.0 ≡ module_on c.args.vl.now.cycles c.args.cycle.0 (at c)
module_is c =
    let k = c.args.cycle.0 in
    let further = c.args.place + c.args.further in
    c.at.ensures ∙ (ap (λ z. get_or (round_at c.cycles-cycles.result.now k) z 0) c.turns-turned.ensures.rest ∙ ap (λ n. get_or (round_at c.cycles-cycles.result.now k) (further % n) 0) c.length-length.ensures ∙
    ap (λ (t : CyclesSeen). get_or (round_at t k) (further % length (round_at t k)) 0) c.cycles-cycles.ensures.cycles)

-- its step by the table is its continuing step
table_step : (c : After-at) (o : Option OnSeen) → o ≡ get_or c.cycles-cycles.result.now.on c.at.result.0 None → Continues c.args.vl.now.grammar (module_on c.args.vl.now.cycles c.args.cycle.0 (at c)) (step_by o)
table_step c o e =
    let l = c.args.vl.now in
    let label = c.cycles-cycles.ensures.label in
    let same = e ∙ (ap (λ (t : CyclesSeen). get_or t.on c.at.result.0 None) c.cycles-cycles.ensures.cycles ∙ ap (λ m. get_or l.cycles.on m None) (module_is c)) in
    let m = module_on l.cycles c.args.cycle.0 (at c) in
    let q = place_told l.grammar l.cycles label.formed label.linear label.cycles_are c.args.cycle.0 (at c) c.requires.cycle (within c) in
    continuing_is l.grammar m (step_by o) (q.2 ∙ ap (λ z. Some (step_by z)) (sym q.1 ∙ sym same))

-- src/rows/continuing.rt:29:11
pub on-requires : goal.on-requires
on-requires c =
    let l = c.args.vl.now in
    let label = c.cycles-cycles.ensures.label in
    let below = place_below l.grammar l.cycles label.cycles_are label.formed c.args.cycle.0 (at c) c.requires.cycle (within c) in
    let each = ap (λ (t : CyclesSeen). length t.on) c.cycles-cycles.ensures.cycles ∙ label.cycles_are.one_each in
    let is = module_is c in
    omega arith

pub returns-in-Some-clause-continues : goal.returns-in-Some-clause-continues
returns-in-Some-clause-continues c = table_step (goal.at.returns-in-Some-clause-continues c).After-at (Some (on_of c.in-Some.on)) c.in-Some.ensures

pub returns-in-None-clause-continues : goal.returns-in-None-clause-continues
returns-in-None-clause-continues c = table_step (goal.at.returns-in-None-clause-continues c).After-at None c.in-None.ensures
