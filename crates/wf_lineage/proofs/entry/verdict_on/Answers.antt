use Rattle.std.proofs.Common.{sym, subst}
use Rattle.wf_decode.specs.HeldEnds.{IsHeldEnd}
use Rattle.wf_lineage.specs.Directions.{side_of}
use Rattle.wf_lineage.specs.Listed.{IsVerdictOn}
use Rattle.wf_lineage.proofs.entry.verdict_on.Goals as goal

pub decide_to-requires-clause-second : goal.decide_to-requires-clause-second
decide_to-requires-clause-second g c = subst (λ d. IsHeldEnd c.args.vl.now (side_of d) c.args.of.now) c.in-Upstream.is c.requires.of

pub decide_from-requires-clause-first : goal.decide_from-requires-clause-first
decide_from-requires-clause-first g c = subst (λ d. IsHeldEnd c.args.vl.now (side_of d) c.args.of.now) c.in-Downstream.is c.requires.of

pub returns-in-Upstream-clause-verdict : goal.returns-in-Upstream-clause-verdict
returns-in-Upstream-clause-verdict g c u y x of of_y of_x y_is x_is =
    subst (λ d. IsVerdictOn c.args.vl.now.grammar u d y x c.decide_to.result) (sym c.in-Upstream.is) (c.decide_to.ensures.verdict u x y of of_x of_y x_is y_is)

pub returns-in-Downstream-clause-verdict : goal.returns-in-Downstream-clause-verdict
returns-in-Downstream-clause-verdict g c u y x of of_y of_x y_is x_is =
    subst (λ d. IsVerdictOn c.args.vl.now.grammar u d y x c.decide_from.result) (sym c.in-Downstream.is) (c.decide_from.ensures.verdict u y x of of_y of_x y_is x_is)
