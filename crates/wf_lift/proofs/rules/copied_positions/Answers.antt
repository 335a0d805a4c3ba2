use Rattle.std.proofs.Common.{◌∙◌, List, map, ap}
use Rattle.std.proofs.lemmas.List.{take_all}
use Rattle.wf_model.specs.declared.body.Position.{Position as PositionHeld}
use Rattle.wf_model.specs.Meaning.{position_of}
use Rattle.wf_spec.proofs.Listing.{made_more}
use Rattle.wf_lift.proofs.rules.copied_positions.Goals as goal

pub loop-one-preserved : goal.loop-one-preserved
loop-one-preserved c =
    let one = c.one-item.result in
    let made : PositionHeld = record { name = c.in_ok-name.name; «module» = one.«module» } in
    let name = c.in_ok-name.ensures ∙ c.bytes.ensures in
    made_more position_of position_of c.loop-one.list.items c.push.new.self.items made c.args.positions.now c.loop-one.one-index one
    c.loop-one.invariant (λ i. record { name = name i; module_no = one.«module».0 }) c.one-item.is c.loop-one-test.true c.in_ok-push.ensures.items

pub returns : goal.returns
returns c = c.loop-one.invariant ∙ ap (λ (l : List PositionHeld). map position_of l) (take_all c.loop-one.one-index c.args.positions.now c.loop-one-test.false)
