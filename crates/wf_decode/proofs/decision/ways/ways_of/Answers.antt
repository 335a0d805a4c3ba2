use Rattle.std.proofs.Common.{take, subst, arith}
use Rattle.wf_decode.specs.declared.decision.ends.End.TheVariants.{At}
use Rattle.wf_decode.specs.Ends.{IsEndOn}
use Rattle.wf_decode.proofs.DecisionCosts.{whole_up_cost, whole_down_cost}
use Rattle.wf_decode.proofs.FewPorts.{few_ports}
use Rattle.wf_decode.proofs.HeldEnds.{end_legs}
use Rattle.wf_decode.proofs.Ways.{way_all}
use Rattle.wf_decode.proofs.decision.ways.ways_of.Goals as goal

pub rows_up-requires : goal.rows_up-requires
rows_up-requires g c =
    let l = c.args.vl.now in
    let w = c.requires in
    let legs = c.args.legs.now in
    let e = end_legs c.args.side l w.0 w.1 c.in-At.n c.in-At.at legs (subst (λ z. IsEndOn c.args.side l w.0 w.1 z legs) c.in-At.is w.3) in
    (w.0, l.grammar.start, w.2, way_all l c.cycles-label.ensures.label w.0 w.2 e.0 c.in-At.at.module.0 (take c.in-At.n legs) e.1)

pub columns_down-requires : goal.columns_down-requires
columns_down-requires g c =
    let l = c.args.vl.now in
    let w = c.requires in
    let legs = c.args.legs.now in
    let h = subst (λ z. IsEndOn c.args.side l w.0 w.1 z legs) c.in-At.is w.3 in
    let e = end_legs c.args.side l w.0 w.1 c.in-At.n c.in-At.at legs h in
    let p = subst (λ z. IsEndOn z l w.0 w.1 (At c.in-At.n c.in-At.at) legs) c.in-Output.is h in
    record {
      way = (w.0, l.grammar.start, w.2, way_all l c.cycles-label.ensures.label w.0 w.2 e.0 c.in-At.at.module.0 (take c.in-At.n legs) e.1);
      output = let o = p.in_range in let f = (few_ports l.grammar c.cycles-label.ensures.label.formed c.in-At.at.module.0).1 in omega arith;
    }

pub returns-in-Input-clause-cost : goal.returns-in-Input-clause-cost
returns-in-Input-clause-cost g c most few =
    let l = c.args.vl.now in
    let w = c.requires in
    let legs = c.args.legs.now in
    let e = end_legs c.args.side l w.0 w.1 c.in-At.n c.in-At.at legs (subst (λ z. IsEndOn c.args.side l w.0 w.1 z legs) c.in-At.is w.3) in
    let k = whole_up_cost l c.cycles-label.ensures.label w.0 w.2 most few e.0 c.in-At.at.module.0 (take c.in-At.n legs) e.1 in
    let n = c.rows_up.ensures.cost in
    omega arith

pub returns-in-Output-clause-cost : goal.returns-in-Output-clause-cost
returns-in-Output-clause-cost g c most few =
    let l = c.args.vl.now in
    let w = c.requires in
    let legs = c.args.legs.now in
    let e = end_legs c.args.side l w.0 w.1 c.in-At.n c.in-At.at legs (subst (λ z. IsEndOn c.args.side l w.0 w.1 z legs) c.in-At.is w.3) in
    let k = whole_down_cost l c.cycles-label.ensures.label w.0 w.2 most few e.0 c.in-At.at.module.0 (take c.in-At.n legs) e.1 in
    let n = c.columns_down.ensures.cost in
    omega arith
