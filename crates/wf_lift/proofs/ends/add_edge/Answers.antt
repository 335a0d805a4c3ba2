use Rattle.wf_model.specs.Meaning.{edge_of}
use Rattle.words_model.specs.Lifting.{lift_edge}
use Rattle.wf_lift.proofs.Growing.{states_more}
use Rattle.wf_lift.proofs.ends.add_edge.Goals as goal

pub loop-s-preserved : goal.loop-s-preserved
loop-s-preserved c =
    states_more edge_of (λ s. lift_edge c.args.states s (edge_of c.args.edge)) c.args.list.now.items c.loop-s.list.items c.push.new.self.items
    (record { from = c.lift_inner.result; to = c.lift_inner-in-loop-s.result }) c.loop-s.s
    c.loop-s.invariant (λ t. record { from = c.lift_inner.ensures t; to = c.lift_inner-in-loop-s.ensures t }) c.in_ok-push.ensures.items
