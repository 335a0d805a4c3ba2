use Rattle.std.proofs.Common.{◌<◌, IsTrue, map, refl, sym, ap, ◌∙◌, subst, ⊎_elim, true≢false}
use Rattle.std.proofs.lemmas.List.{take_all}
use Rattle.wf_model.specs.Lists.{IsIn}
use Rattle.wf_safe.specs.Settling.{is_set}
use Rattle.wf_safe.proofs.Standing.{module_held, body_is, stands_there, below_there}
use Rattle.wf_safe.proofs.Taken.{in_more}
use Rattle.wf_safe.proofs.check.table.are_set.Goals as goal

pub is_set-requires : goal.is_set-requires
is_set-requires c =
    let g = c.args.g.now.core in
    let i = stands_there g c.args.p.0 c.positions-q-items.result.now c.production.result.now.core c.loop-q.q-index c.q-item.result c.positions-q-items.ensures c.production.ensures.core c.loop-q-test.true c.q-item.is in
    subst (λ n. c.q-item.result.«module».0 < n) (sym c.requires.one_each) (below_there g c.args.p.0 c.q-item.result.«module».0 c.production.ensures.formed c.requires.production i)

pub returns-then-not-is_set : goal.returns-then-not-is_set
returns-then-not-is_set c =
    let g = c.args.g.now.core in
    let i = stands_there g c.args.p.0 c.positions-q-items.result.now c.production.result.now.core c.loop-q.q-index c.q-item.result c.positions-q-items.ensures c.production.ensures.core c.loop-q-test.true c.q-item.is in
    (λ t. absurd (true≢false (sym t)), λ h. sym c.if-not-is_set.true ∙ (c.is_set.ensures ∙ h c.q-item.result.«module».0 i))

pub loop-q-preserved : goal.loop-q-preserved
loop-q-preserved c = λ m i.
    let q = c.q-item.result in
    let here : IsTrue (is_set c.args.rows.now q.«module».0) = sym c.is_set.ensures ∙ c.if-not-is_set.false in
    ⊎_elim (λ h. c.loop-q.invariant m h) (λ e. subst (λ z. IsTrue (is_set c.args.rows.now z)) (ap module_held c.q-item.is ∙ sym e) here)
    (in_more module_held m c.positions-q-items.result.now c.loop-q.q-index q c.loop-q-test.true i)

pub returns : goal.returns
returns c =
    let g = c.args.g.now.core in
    let xs = c.positions-q-items.result.now in
    let body = body_is g c.args.p.0 c.positions-q-items.result.now c.production.result.now.core c.positions-q-items.ensures c.production.ensures.core in
    let all = take_all c.loop-q.q-index c.positions-q-items.result.now c.loop-q-test.false in
    (λ t. λ m i. c.loop-q.invariant m (subst (IsIn m) (sym (ap (map module_held) all ∙ body)) i), λ h. refl)
