use Rattle.std.proofs.Common.{◌≡◌, ◌≢◌, ℕ, Bool, true, false, not, eqb, refl, sym, ap, ◌∙◌, arith, true≢false}
use Rattle.std.proofs.lemmas.Bool.{eqb-true, eq-eqb}
use Rattle.wf_model.specs.Reach.{module_along}
use Rattle.wf_recur.specs.Cycles.{step_of}
use Rattle.wf_decode.proofs.CommonSteps.{HaveCommonBefore, common_none, common_before, common_more, across, clash}
use Rattle.wf_decode.proofs.parting.part.Goals as goal
use Rattle.wf_decode.proofs.parting.part.Goals.{After-meet-met}

told_other : (a b : ℕ) → true ≡ not (eqb a b) → a ≢ b
told_other a b h e = true≢false (h ∙ ap not (eq-eqb a b e))

if_not : (x : Bool) → false ≡ not x → x ≡ true
if_not true h = refl
if_not false h = absurd (true≢false (sym h))

told_same : (a b : ℕ) → false ≡ not (eqb a b) → a ≡ b
told_same a b h = eqb-true a b (if_not (eqb a b) h)

-- after the common beginning a step of each address was taken
before : (c : After-meet-met) → HaveCommonBefore c.args.vl.now c.args.first.now c.args.second.now (step_of c.meet-met.result.first) (step_of c.meet-met.result.second) c.meet-met.result.first_from c.meet-met.result.second_from c.meet-met.new.first c.meet-met.new.second
before c =
    let l = c.args.vl.now in
    let h = c.loop-i.invariant.common in
    let met = c.meet-met.ensures in
    common_before l c.grammar-linear.ensures.label c.args.first.now c.args.second.now (step_of c.meet-met.result.first) (step_of c.meet-met.result.second) c.loop-i.i c.loop-i.j c.meet-met.result.first_from c.meet-met.result.second_from c.loop-i.first c.loop-i.second c.meet-met.new.first c.meet-met.new.second h
    (met.left (module_along l.grammar l.grammar.start h.common) h.first.held h.second.held) (omega (arith, met.first_within, met.first_length)) (omega (arith, met.second_within, met.second_length))
    met.first_onward met.first_kept met.second_onward met.second_kept

pub loop-i-init : goal.loop-i-init
loop-i-init c = record { common = common_none c.args.vl.now c.args.first.now c.args.second.now c.requires.first c.requires.second; first_length = refl; second_length = refl }

pub returns-then-ne-clause-parted : goal.returns-then-ne-clause-parted
returns-then-ne-clause-parted c =
    clash _ _ _ _ _ _ _ _ _ (before ((goal.at.returns-then-ne-clause-parted c).After-meet-met)) (told_other c.meet-met.result.first.production.0 c.meet-met.result.second.production.0 c.if-ne.ensures)

pub returns-then-ne-2-clause-parted : goal.returns-then-ne-2-clause-parted
returns-then-ne-2-clause-parted c =
    across _ _ _ _ _ _ _ _ _ (before ((goal.at.returns-then-ne-2-clause-parted c).After-meet-met)) (told_same c.meet-met.result.first.production.0 c.meet-met.result.second.production.0 c.if-ne.ensures)
    (told_other c.meet-met.result.first.position.0 c.meet-met.result.second.position.0 c.if-ne-2.ensures)

pub loop-i-preserved : goal.loop-i-preserved
loop-i-preserved c =
    let s = c.meet-met.result.first in
    let t = c.meet-met.result.second in
    let p = sym (told_same s.production.0 t.production.0 c.if-ne.ensures) in
    let q = sym (told_same s.position.0 t.position.0 c.if-ne-2.ensures) in
    let same : step_of t ≡ step_of s = λ i. record { production = p i; position = q i } in
    record {
      common = common_more _ _ _ _ _ _ _ _ _ (before ((goal.at.loop-i-preserved c).After-meet-met)) same;
      first_length = c.meet-met.ensures.first_length ∙ c.loop-i.invariant.first_length;
      second_length = c.meet-met.ensures.second_length ∙ c.loop-i.invariant.second_length;
    }
