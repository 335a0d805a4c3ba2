use Rattle.std.proofs.Common.{◌≤◌, List, drop, length, ap, sym, subst, arith, ◌∙◌}
use Rattle.std.proofs.lemmas.List.{take_at}
use Rattle.wf_decode.specs.declared.leg.Leg.{Leg as LegHeld}
use Rattle.wf_decode.specs.HeldEnds.{FitsIn}
use Rattle.wf_decode.specs.HeldWays.{AreWaysOf}
use Rattle.wf_decode.specs.Ends.{IsEndOn}
use Rattle.wf_decode.specs.Reading.{most_legs}
use Rattle.wf_decode.proofs.HeldEnds.{end_fits}
use Rattle.wf_decode.proofs.decision.held.HeldEnd.read.Goals as goal

pub returns-clause-held : goal.returns-clause-held
returns-clause-held g c =
    let l = c.args.vl.now in
    let u = c.cycles-label.ensures.label.of_view in
    let x = c.requires in
    let legs = c.end_on-end.new.legs in
    let many = ap length c.as_mut_slice.ensures.value ∙ c.in_ok-legs.ensures in
    let same = sym (take_at legs (drop (length legs) c.in_ok-legs.legs.items) c.in_ok-legs.legs.len (c.end_on-end.ensures.length ∙ c.as_mut_slice.ensures.len)) in
    record {
      label = c.requires;
      fits = subst (λ (z : List LegHeld). FitsIn c.end_on-end.result (length z)) same (end_fits c.args.side l u.0 x.0 c.end_on-end.result legs (c.end_on-end.ensures.end u.0 x.0 u.1 x.1 x.2));
      few = subst (λ (z : List LegHeld). length z ≤ most_legs l.grammar) same (let n = c.end_on-end.ensures.length ∙ many in omega arith);
      ends = λ v y of label bits. subst (λ (z : List LegHeld). IsEndOn c.args.side l v y c.end_on-end.result z) same (c.end_on-end.ensures.end v y of label bits);
      ways = subst (λ (z : List LegHeld). AreWaysOf c.args.side l c.end_on-end.result z c.in_ok-ways.ways.items) c.as_slice.ensures.value c.in_ok-ways.ensures.ways;
    }
