use Rattle.words_model.specs.Lifting.{port_name}
use Rattle.wf_model.proofs.Joined.{value_more}
use Rattle.wf_lift.proofs.names.add_names.Goals as goal

pub loop-s-preserved : goal.loop-s-preserved
loop-s-preserved c =
    value_more (port_name c.args.letter c.args.port) c.loop-s.s c.args.list.now.items c.loop-s.list.items c.push.new.self.items c.in_ok-name.name
    c.loop-s.invariant c.in_ok-name.ensures c.in_ok-push.ensures.items
