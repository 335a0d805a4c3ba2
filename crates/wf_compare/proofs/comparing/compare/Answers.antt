use Rattle.std.proofs.Common.{ap, subst, ◌∙◌}
use Rattle.wf_spec.specs.Held.{HeldGrammar}
use Rattle.wf_view.specs.Held.{HeldView}
use Rattle.compare_model.specs.Coarser.{IsCoarser, IsFirstExpandedAlone}
use Rattle.wf_compare.proofs.SameGrammar.{rows_there, compared_there, denied_there, both_there}
use Rattle.wf_compare.proofs.comparing.compare.Goals as goal

pub returns-in-Some-clause-refused : goal.returns-in-Some-clause-refused
returns-in-Some-clause-refused c =
    both_there (λ u v. IsFirstExpandedAlone u v c.in-Some.module.0) c.sight-sight.result.view.now c.args.coarse.now.view c.view.result.now c.args.fine.now.view c.sight-sight.ensures.view c.view.ensures.view c.in-Some.ensures

pub compared-requires : goal.compared-requires
compared-requires c =
    rows_there c.args.fine.now.accepted.grammar.core c.sight-sight.result.grammar.now.core c.args.fine.now.view.core c.sight-sight.result.view.now.core c.args.fine.now.full c.full.result.now c.full.ensures.safe.full
    (ap (λ (h : HeldGrammar). h.core) c.sight-sight.ensures.grammar ∙ c.requires.same) c.full.ensures.full
    (subst (λ (u : HeldView). IsCoarser c.sight-sight.result.view.now.core u.core) c.view.ensures.view c.in_default.ensures)

pub returns-in-Ok-clause-coarser : goal.returns-in-Ok-clause-coarser
returns-in-Ok-clause-coarser c = both_there IsCoarser c.sight-sight.result.view.now c.args.coarse.now.view c.view.result.now c.args.fine.now.view c.sight-sight.ensures.view c.view.ensures.view c.in_default.ensures

pub returns-in-Ok-clause-compared : goal.returns-in-Ok-clause-compared
returns-in-Ok-clause-compared c =
    compared_there c.sight-sight.result.grammar.now c.args.coarse.now.accepted.grammar c.sight-sight.result.view.now c.args.coarse.now.view c.full.result.now c.args.fine.now.full c.in-Ok.told
    c.sight-sight.ensures.grammar c.sight-sight.ensures.view c.full.ensures.full c.in-Ok.ensures.told

pub returns-in-Err-clause-refused : goal.returns-in-Err-clause-refused
returns-in-Err-clause-refused c = (
  both_there IsCoarser c.sight-sight.result.view.now c.args.coarse.now.view c.view.result.now c.args.fine.now.view c.sight-sight.ensures.view c.view.ensures.view c.in_default.ensures,
  denied_there c.sight-sight.result.grammar.now c.args.coarse.now.accepted.grammar c.sight-sight.result.view.now c.args.coarse.now.view c.full.result.now c.args.fine.now.full
      c.sight-sight.ensures.grammar c.sight-sight.ensures.view c.full.ensures.full c.in-Err.ensures.denies,
)
