use Rattle.std.proofs.Common.{◌∙◌, List, map, ap}
use Rattle.std.proofs.lemmas.List.{take_all}
use Rattle.wf_spec.specs.Held.{HeldProduction}
use Rattle.wf_model.proofs.Lists.{in_map}
use Rattle.wf_spec.proofs.Listing.{read_in}
use Rattle.words_model.specs.Lifting.{lift_production}
use Rattle.wf_lift.proofs.Growing.{made_more, made_at_once}
use Rattle.wf_lift.proofs.rules.lift_rules.Goals as goal

pub lift_rule-requires : goal.lift_rule-requires
lift_rule-requires c =
    c.requires c.one-item.result.core (in_map (λ (p : HeldProduction). p.core) c.one-item.result c.args.productions.now
    (read_in c.args.productions.now c.loop-one.one-index c.one-item.result c.one-item.is c.loop-one-test.true))

pub loop-one-preserved : goal.loop-one-preserved
loop-one-preserved c =
    made_more (λ (p : HeldProduction). lift_production c.args.states p.core) c.loop-one.list.items c.push.new.self.items c.in_ok-lifted.lifted c.args.productions.now c.loop-one.one-index c.one-item.result
    c.loop-one.invariant c.in_ok-lifted.ensures c.one-item.is c.loop-one-test.true c.in_ok-push.ensures.items

pub returns : goal.returns
returns c =
    let core = λ (p : HeldProduction). p.core in
    let f = lift_production c.args.states in
    c.loop-one.invariant ∙ (ap (λ (l : List HeldProduction). map (λ p. f (core p)) l) (take_all c.loop-one.one-index c.args.productions.now c.loop-one-test.false) ∙ made_at_once f core c.args.productions.now)
