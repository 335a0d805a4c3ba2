use Rattle.std.proofs.Common.{refl, subst, arith}
use Rattle.wf_decode.specs.Ends.{IsConsumingEnd, IsProducingEnd}
use Rattle.wf_decode.proofs.Decisions.{decided, unconsumed, unproduced, producing_shown}
use Rattle.wf_decode.proofs.decision.decide_ends.Goals as goal

pub returns-in_default : goal.returns-in_default
returns-in_default g c =
    record {
      decision = λ u x y of lx ly hx hy.
          let l = c.args.vl.now in
          let h = subst (λ z. IsConsumingEnd l u x z c.args.first_legs.now) c.in-Nowhere.is hx in
          unconsumed l c.cycles-label.ensures.label u of x y lx ly h.0 h.1 (producing_shown l u y c.args.to c.args.second_legs.now c.in_default.not-Hidden hy);
      cost = λ most few. omega arith;
      first_length = refl;
      second_length = refl;
    }

pub returns-in-Nowhere-to-clause-decision : goal.returns-in-Nowhere-to-clause-decision
returns-in-Nowhere-to-clause-decision g c u x y of lx ly hx hy =
    let l = c.args.vl.now in
    let h = subst (λ z. IsConsumingEnd l u x z c.args.first_legs.now) c.in-At.is hx in
    let k = subst (λ z. IsProducingEnd l u y z c.args.second_legs.now) c.in-Nowhere-to.is hy in
    unproduced l c.cycles-label.ensures.label u of x y lx ly k.0 k.1 h.shown

pub returns-in-At-to-clause-decision : goal.returns-in-At-to-clause-decision
returns-in-At-to-clause-decision g c u x y of lx ly hx hy =
    let l = c.args.vl.now in
    let h = subst (λ z. IsConsumingEnd l u x z c.args.first_legs.now) c.in-At.is hx in
    let k = subst (λ z. IsProducingEnd l u y z c.args.second_legs.now) c.in-At-to.is hy in
    let a = c.answer.ensures.answer u h.address k.address of (record { first = h.legs_at; input = h.in_range; second = k.legs_at; output = k.in_range }) in
    decided l c.cycles-label.ensures.label u of x y lx ly h.address k.address c.in-At.input.port.0 c.in-At-to.output.port.0 c.answer.result h.consumed k.produced (h.shown, k.shown) a
