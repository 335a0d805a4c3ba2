use Rattle.std.proofs.Common.{◌≡◌, ◌<◌, ◌≤◌, ◌∙◌, sym, subst, length, arith}
use Rattle.std.specs.Prelude.{option_map}
use Rattle.std.proofs.lemmas.List.{length-map}
use Rattle.wf_model.specs.declared.numbers.ModNo.{ModNo}
use Rattle.wf_recur.specs.Cycles.{on_of, step_of}
use Rattle.wf_recur.specs.Rounds.{numbers_of, stands_in}
use Rattle.wf_recur.proofs.Opening.{met_told}
use Rattle.wf_recur.proofs.Telling.{step_told, steps_linear}
use Rattle.wf_recur.proofs.Ways.{round_more, round_end}
use Rattle.wf_recur.proofs.rounds.round_from.Goals as goal

pub loop-step-preserved : goal.loop-step-preserved
loop-step-preserved c =
    let g = c.args.g.now.core in
    let m = c.loop-step.m.0 in
    let round = c.loop-step.round.items in
    let on = stands_in c.loop-step.on in
    let known = c.loop-step.invariant in
    let step = step_told g c.args.steps.now m c.in-Some.step c.requires.steps known.within c.in-Some.ensures.1 in
    let same : length on ≡ length g.modules = known.placed.count ∙ (length-map c.args.on.now (option_map on_of) ∙ c.requires.one_each) in
    let within : m < length on = subst (λ n. m < n) (sym same) known.within in
    let number = sym (length-map round (λ (k : ModNo). k.0)) in
    let r = round_more g c.args.cycle.0 c.args.first.0 m (numbers_of round) (numbers_of c.stand.new.round.items) (stands_in c.args.on.now) on (stands_in c.stand.new.on) (step_of c.in-Some.step) (length round) c.target-m.result.0
    known.way known.placed step c.in-Some.ensures.0 within c.in_ok-stand.ensures.round number c.in_ok-stand.ensures.placed c.target-m.ensures.target in
    record { way = r.0; placed = r.1; few = subst (λ n. n ≤ length g.modules) (sym r.2) known.few; within = c.target-m.ensures.in_range }

pub returns-clause-round : goal.returns-clause-round
returns-clause-round c =
    let g = c.args.g.now.core in
    let m = c.loop-step.m.0 in
    let round = numbers_of c.loop-step.round.items in
    let on = stands_in c.loop-step.on in
    let known = c.loop-step.invariant in
    let few = known.few in
    let most = c.requires.formed.few_modules in
    round_end g (steps_linear g c.requires.formed c.args.steps.now c.requires.steps) c.args.cycle.0 c.args.first.0 m round (stands_in c.args.on.now) on
    known.way known.placed c.requires.closed c.requires.on_cycle c.requires.no_place (met_told g c.args.steps.now on m c.requires.steps known.within c.in_default.ensures) (omega arith)
