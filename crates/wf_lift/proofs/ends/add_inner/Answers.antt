use Rattle.wf_model.specs.Meaning.{inner_of}
use Rattle.words_model.specs.Lifting.{lift_inner}
use Rattle.wf_lift.proofs.Growing.{states_more}
use Rattle.wf_lift.proofs.ends.add_inner.Goals as goal

pub loop-s-preserved : goal.loop-s-preserved
loop-s-preserved c =
    states_more inner_of (λ s. lift_inner c.args.states s (inner_of c.args.one)) c.args.list.now.items c.loop-s.list.items c.push.new.self.items c.lift_inner.result c.loop-s.s
    c.loop-s.invariant c.lift_inner.ensures c.in_ok-push.ensures.items
