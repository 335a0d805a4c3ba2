use Rattle.std.proofs.Common.{◌∙◌, List, map, ap}
use Rattle.std.proofs.lemmas.List.{take_all}
use Rattle.wf_model.specs.Grammar.{Module}
use Rattle.wf_spec.proofs.Listing.{read_in}
use Rattle.words_model.specs.Lifting.{lift_module}
use Rattle.wf_lift.proofs.Growing.{made_more}
use Rattle.wf_lift.proofs.modules.lift_modules.Goals as goal

pub lift_module-requires-clause-inputs : goal.lift_module-requires-clause-inputs
lift_module-requires-clause-inputs c = (c.requires c.one-item.result (read_in c.args.modules.now c.loop-one.one-index c.one-item.result c.one-item.is c.loop-one-test.true)).0

pub lift_module-requires-clause-outputs : goal.lift_module-requires-clause-outputs
lift_module-requires-clause-outputs c = (c.requires c.one-item.result (read_in c.args.modules.now c.loop-one.one-index c.one-item.result c.one-item.is c.loop-one-test.true)).1

pub loop-one-preserved : goal.loop-one-preserved
loop-one-preserved c =
    made_more (lift_module c.args.states) c.loop-one.list.items c.push.new.self.items c.in_ok-lifted.lifted c.args.modules.now c.loop-one.one-index c.one-item.result
    c.loop-one.invariant c.in_ok-lifted.ensures c.one-item.is c.loop-one-test.true c.in_ok-push.ensures.items

pub returns : goal.returns
returns c = c.loop-one.invariant ∙ ap (λ (l : List Module). map (lift_module c.args.states) l) (take_all c.loop-one.one-index c.args.modules.now c.loop-one-test.false)
