use Rattle.std.proofs.Common.{ℕ, ◌++◌, map, sym, ap, ◌∙◌, append-nil, arith}
use Rattle.wf_model.specs.declared.body.Position.{Position as PositionHeld}
use Rattle.wf_model.specs.Lists.{numbers_from}
use Rattle.wf_compare.specs.Steps.{leading_at}
use Rattle.wf_body.proofs.Ordering.{count_is}
use Rattle.wf_model.proofs.Joined.{value_more}
use Rattle.wf_compare.proofs.StepLists.{module_there}
use Rattle.wf_compare.proofs.steps.add_steps.Goals as goal

pub loop-k-init : goal.loop-k-init
loop-k-init c = sym (append-nil c.args.row.now.items)

pub loop-k-preserved : goal.loop-k-preserved
loop-k-preserved c =
    let g = c.args.g.now.core in
    let p = c.args.production.0 in
    value_more (leading_at g p) c.loop-k.k c.args.row.now.items c.loop-k.row.items c.push.new.self.items _ c.loop-k.invariant
    (ap (λ (m : ℕ). record { step = record { production = record { 0 = p }; position = record { 0 = c.loop-k.k } }; target = record { 0 = m } })
    (sym (ap (λ (q : PositionHeld). q.module.0) c.index-positions-k.is) ∙ module_there g p c.loop-k.k c.positions-positions.result.now c.production.result.now.core c.index-positions-k.result c.positions-positions.ensures c.production.ensures.core c.loop-k-test.true c.index-positions-k.is))
    c.in_ok-push.ensures.items

pub returns : goal.returns
returns c =
    let count = count_is c.args.g.now.core c.args.production.0 c.positions-positions.result.now c.production.result.now.core c.positions-positions.ensures c.production.ensures.core in
    let over = c.loop-k-test.false in
    let upto = c.loop-k.auto.k-end in
    c.loop-k.invariant ∙ ap (λ n. c.args.row.now.items ++ map (leading_at c.args.g.now.core c.args.production.0) (numbers_from 0 n)) (omega arith)
