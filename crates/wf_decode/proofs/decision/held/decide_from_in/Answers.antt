use Rattle.std.proofs.Common.{length, arith, ◌∙◌}
use Rattle.wf_model.specs.declared.numbers.Side.TheVariants.{Input}
use Rattle.wf_decode.proofs.HeldEnds.{held_kept, held_ways, fits_more}
use Rattle.wf_decode.proofs.decision.held.decide_from_in.Goals as goal

pub put_legs-requires-clause-to : goal.put_legs-requires-clause-to
put_legs-requires-clause-to g c =
    let few = c.requires.first.few in
    let room = c.requires.first_room in
    fits_more c.args.first.now.end (length c.args.first.now.legs) (length c.args.first_legs.now) c.requires.first.fits (omega arith)

pub decide_ends-requires-clause-ends : goal.decide_ends-requires-clause-ends
decide_ends-requires-clause-ends g c =
    let u = c.cycles-label.ensures.label.of_view in
    let x = c.requires.first.label in
    let y = c.requires.second in
    (u.0, x.0, y.0, u.1, held_kept Input c.args.vl.now c.args.first.now _ c.put_legs.new.legs c.first.view_is c.requires.first c.put_legs.ensures.alike u.0 x.0 u.1 x.1 x.2, c.end_on-to.ensures.end u.0 y.0 u.1 y.1 y.2)

pub decide_ends-requires-clause-rows : goal.decide_ends-requires-clause-rows
decide_ends-requires-clause-rows g c some =
    held_ways Input c.args.vl.now c.args.first.now _ c.put_legs.new.legs c.as_slice-rows.result.now c.first.view_is c.as_slice-rows.ensures.value c.requires.first c.put_legs.ensures.alike

pub returns : goal.returns
returns g c =
    record {
      decision = λ u x y of lx ly ex ey. c.decide_ends.ensures.decision u x y of lx ly
          (held_kept Input c.args.vl.now c.args.first.now _ c.put_legs.new.legs c.first.view_is c.requires.first c.put_legs.ensures.alike u x of lx ex) (c.end_on-to.ensures.end u y of ly ey);
      cost = c.decide_ends.ensures.cost;
      first_length = c.decide_ends.ensures.first_length ∙ c.put_legs.ensures.length;
      second_length = c.decide_ends.ensures.second_length ∙ c.end_on-to.ensures.length;
    }
