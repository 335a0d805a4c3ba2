use Rattle.std.proofs.Common.{◌+◌, refl, take}
use Rattle.wf_safe.specs.Witness.{chosen_in}
use Rattle.wf_safe.proofs.Choices.{chosen_more, chosen_next}
use Rattle.wf_safe.proofs.Rounds.{none_tried, tried_more}
use Rattle.wf_safe.proofs.check.settle.round.Goals as goal

pub loop-c-init : goal.loop-c-init
loop-c-init c = record { table = c.requires.table; tried = none_tried c.args.g.now.core (chosen_in c.args.choice.now) c.args.rows.now }

pub settle-requires-clause-production : goal.settle-requires-clause-production
settle-requires-clause-production c = c.requires.productions _ _ (chosen_next c.args.choice.now c.loop-c.c-index _ _ _ c.loop-c-test.true refl refl)

pub loop-c-preserved : goal.loop-c-preserved
loop-c-preserved c =
    let cs = c.args.choice.now in
    let k = c.loop-c.c-index in
    let chosen = chosen_next c.args.choice.now c.loop-c.c-index _ _ _ c.loop-c-test.true refl refl in
    record {
      table = c.in_ok-settled.ensures.table;
      tried = tried_more c.args.g.now.core (chosen_in cs) c.args.rows.now (chosen_in (take k cs)) (chosen_in (take (k + 1) cs)) c.loop-c.some c.loop-c.rows c.loop-c.invariant.tried _ _ chosen
          (λ m p i. chosen_more cs k _ m p c.loop-c-test.true i) c.settle.new.rows c.requires.formed c.loop-c.invariant.table (c.requires.productions _ _ chosen) c.in_ok-settled.settled c.in_ok-settled.ensures.tried;
    }
