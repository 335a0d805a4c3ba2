use Rattle.std.proofs.Common.{◌∙◌}
use Rattle.wf_decode.proofs.decision.decide_in.Goals as goal

pub returns : goal.returns
returns g c =
    record {
      decision = λ u x y of lx ly ex ey. c.decide_ends.ensures.decision u x y of lx ly (c.end_on-from.ensures.end u x of lx ex) (c.end_on-to.ensures.end u y of ly ey);
      cost = c.decide_ends.ensures.cost;
      first_length = c.decide_ends.ensures.first_length ∙ c.end_on-from.ensures.length;
      second_length = c.decide_ends.ensures.second_length ∙ c.end_on-to.ensures.length;
    }
