use Rattle.std.proofs.Common.{◌+◌, ◌∙◌, ap, not, sym, subst}
use Rattle.std.proofs.lemmas.List.{length-map, map_push}
use Rattle.std.specs.Prelude.{Vec, map}
use Rattle.std.specs.declared.alloc.Global.{Global}
use Rattle.wf_model.specs.declared.numbers.ModNo.{ModNo}
use Rattle.wf_model.proofs.Options.{match_some, match_none}
use Rattle.wf_recur.specs.Cycles.{step_of}
use Rattle.wf_recur.specs.Rounds.{ArePlaced, AreRoundsBelow, numbers_of, rounds_in, stands_in}
use Rattle.wf_recur.proofs.Numbering.{rounds_same, rounds_more}
use Rattle.wf_recur.proofs.Opening.{met_told}
use Rattle.wf_recur.proofs.Telling.{step_told, steps_linear}
use Rattle.wf_recur.proofs.rounds.add_round.Goals as goal

pub returns-then-is_none : goal.returns-then-is_none
returns-then-is_none c =
    let g = c.args.g.now.core in
    let on = stands_in c.args.on.now in
    rounds_same g c.args.m.0 (rounds_in c.args.rounds.now.items) on c.requires.below
    (met_told g c.args.steps.now on c.args.m.0 c.requires.steps c.requires.module_no (match_none c.open_step.result _ _ c.open_step.ensures (c.is_none.ensures ∙ ap not c.if-is_none.true)))

pub returns : goal.returns
returns c =
    let g = c.args.g.now.core in
    let m = c.args.m.0 in
    let before = c.args.rounds.now.items in
    let round = c.in_ok-round.round in
    let on = stands_in c.args.on.now in
    let after = stands_in c.round_from.new.on in
    let found = match_some c.open_step.result _ _ c.open_step.ensures (c.is_none.ensures ∙ ap not c.if-is_none.false) in
    let step = step_told g c.args.steps.now m found.0 c.requires.steps c.requires.module_no found.1.1 in
    let number = c.len.ensures ∙ (c.args.rounds.now.ok.0 ∙ sym (length-map before (λ (r : Vec ModNo Global). map (λ (k : ModNo). k.0) r.items))) in
    let pushed = ap rounds_in c.in_ok-push.ensures.items ∙ map_push (λ (r : Vec ModNo Global). map (λ (k : ModNo). k.0) r.items) before round in
    subst (λ l. AreRoundsBelow g (m + 1) l after) (sym pushed)
    (rounds_more g m (rounds_in before) on c.requires.below (steps_linear g c.requires.formed c.args.steps.now c.requires.steps) (numbers_of round.items) after (step_of found.0, step) found.1.0 c.in_ok-round.ensures.round
    (subst (λ n. ArePlaced g n (numbers_of round.items) on after) number c.in_ok-round.ensures.placed))
