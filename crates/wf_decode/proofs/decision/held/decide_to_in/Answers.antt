use Rattle.std.proofs.Common.{length, arith, ◌∙◌}
use Rattle.wf_model.specs.declared.numbers.Side.TheVariants.{Output}
use Rattle.wf_decode.proofs.HeldEnds.{held_kept, held_ways, fits_more}
use Rattle.wf_decode.proofs.decision.held.decide_to_in.Goals as goal

pub put_legs-requires-clause-to : goal.put_legs-requires-clause-to
put_legs-requires-clause-to g c =
    let few = c.requires.second.few in
    let room = c.requires.second_room in
    fits_more c.args.second.now.end (length c.args.second.now.legs) (length c.args.second_legs.now) c.requires.second.fits (omega arith)

pub decide_ends-requires-clause-ends : goal.decide_ends-requires-clause-ends
decide_ends-requires-clause-ends g c =
    let u = c.cycles-label.ensures.label.of_view in
    let x = c.requires.first in
    let y = c.requires.second.label in
    (u.0, x.0, y.0, u.1, c.end_on-from.ensures.end u.0 x.0 u.1 x.1 x.2, held_kept Output c.args.vl.now c.args.second.now _ c.put_legs.new.legs c.second.view_is c.requires.second c.put_legs.ensures.alike u.0 y.0 u.1 y.1 y.2)

pub decide_ends-requires-clause-columns : goal.decide_ends-requires-clause-columns
decide_ends-requires-clause-columns g c some =
    held_ways Output c.args.vl.now c.args.second.now _ c.put_legs.new.legs c.as_slice-columns.result.now c.second.view_is c.as_slice-columns.ensures.value c.requires.second c.put_legs.ensures.alike

pub returns : goal.returns
returns g c =
    record {
      decision = λ u x y of lx ly ex ey. c.decide_ends.ensures.decision u x y of lx ly (c.end_on-from.ensures.end u x of lx ex)
          (held_kept Output c.args.vl.now c.args.second.now _ c.put_legs.new.legs c.second.view_is c.requires.second c.put_legs.ensures.alike u y of ly ey);
      cost = c.decide_ends.ensures.cost;
      first_length = c.decide_ends.ensures.first_length ∙ c.end_on-from.ensures.length;
      second_length = c.decide_ends.ensures.second_length ∙ c.put_legs.ensures.length;
    }
