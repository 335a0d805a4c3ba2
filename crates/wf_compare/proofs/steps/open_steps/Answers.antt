use Rattle.std.proofs.Common.{◌∙◌, List, map, flat_map, ap, sym}
use Rattle.std.proofs.lemmas.Bool.{cond-true, cond-false}
use Rattle.std.proofs.lemmas.List.{take_all}
use Rattle.wf_model.specs.declared.numbers.ProdNo.{ProdNo}
use Rattle.wf_spec.proofs.Heads.{headed_at}
use Rattle.wf_compare.specs.Steps.{leadings_by}
use Rattle.wf_compare.proofs.OneMore.{leadings_more}
use Rattle.wf_compare.proofs.steps.open_steps.Goals as goal

pub loop-production-init : goal.loop-production-init
loop-production-init c = c.new-row.ensures.items

pub add_steps-requires : goal.add_steps-requires
add_steps-requires c = (headed_at c.args.g.now.core c.args.m.0 c.alternatives-production-items.result.now c.loop-production.production-index _ c.alternatives-production-items.ensures c.loop-production-test.true).0

pub loop-production-preserved : goal.loop-production-preserved
loop-production-preserved c = leadings_more c.args.g.now.core c.alternatives-production-items.result.now c.loop-production.production-index _ _ _ c.loop-production-test.true c.loop-production.invariant c.in_ok-add_steps.ensures

pub returns-then-not-expanded : goal.returns-then-not-expanded
returns-then-not-expanded c = c.new-row.ensures.items ∙ sym (cond-false _ _ _ (sym c.expanded.ensures ∙ c.if-not-expanded.true))

pub returns : goal.returns
returns c =
    c.loop-production.invariant
    ∙ ap (λ (l : List ProdNo). flat_map (leadings_by c.args.g.now.core) (map (λ (p : ProdNo). p.0) l)) (take_all c.loop-production.production-index c.alternatives-production-items.result.now c.loop-production-test.false)
    ∙ ap (flat_map (leadings_by c.args.g.now.core)) c.alternatives-production-items.ensures
    ∙ sym (cond-true _ _ _ (sym c.expanded.ensures ∙ c.if-not-expanded.false))
