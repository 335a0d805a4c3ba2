use Rattle.std.proofs.Common.{refl, sym, ⊎_elim}
use Rattle.wf_safe.proofs.Choices.{chosen_more, chosen_next}
use Rattle.wf_safe.proofs.check.numbers.is_chosen.Goals as goal
use Rattle.wf_safe.proofs.check.numbers.is_chosen.Goals.{else-c-m-via-then-c-m+else-c-p, else-c-m-via-else-c-m}

pub returns-then-c-p : goal.returns-then-c-p
returns-then-c-p c = (λ t. chosen_next c.args.choice.now c.loop-c.c-index _ c.args.m.0 c.args.p.0 c.loop-c-test.true c.if-c-m.true c.if-c-p.true, λ i. refl)

pub loop-c-preserved : goal.loop-c-preserved
loop-c-preserved c = λ i.
    let q = chosen_more c.args.choice.now c.loop-c.c-index _ c.args.m.0 c.args.p.0 c.loop-c-test.true i in
    elim c.else-c-m.branch [
      | else-c-m-via-then-c-m+else-c-p w ↦ ⊎_elim (λ h. c.loop-c.invariant h) (λ e. w.if-c-p.false (sym e.1)) q
      | else-c-m-via-else-c-m w ↦ ⊎_elim (λ h. c.loop-c.invariant h) (λ e. w.if-c-m.false (sym e.0)) q
    ]
