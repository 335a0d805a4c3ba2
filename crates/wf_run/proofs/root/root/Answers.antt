use Rattle.std.proofs.Common.{◌<◌, length, ◌∙◌, ap, sym, subst, arith}
use Rattle.label_model.specs.Places.{chain_by}
use Rattle.wf_recur.proofs.OneTable.{cycled}
use Rattle.wf_recur.proofs.Places.{step_told}
use Rattle.wf_run.proofs.Roots.{composite_root, one_whole}
use Rattle.wf_run.proofs.root.root.Goals as goal

pub returns-clause-node : goal.returns-clause-node
returns-clause-node c =
    let g = c.args.g.grammar.now.core in
    let m = c.start-start.result.0 in
    let s = c.start-start.ensures in
    let there = subst (λ k. k < length g.modules) (sym s.start) s.formed.start in
    let step = step_told g c.args.g.cycles.now s.formed c.args.g.linear (cycled c.args.g.grammar.now.core s.formed c.args.g.linear c.args.g.cycles.now c.args.g.cycled) m there in
    let chain = c.new-2.ensures ∙ (c.begun.ensures.chain ∙ ap (λ o. chain_by o 0) step) in
    composite_root g m _ s.start (sym c.is_composite.ensures.test ∙ c.if-not-is_composite.false) chain

pub returns-clause-filled : goal.returns-clause-filled
returns-clause-filled c = record { whole = one_whole; few = omega arith }
