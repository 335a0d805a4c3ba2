use Rattle.std.proofs.Common.{◌+◌, ◌<◌, ◌≤◌, ◌∙◌, ℕ, ap, refl, sym, subst, false, true≢false, arith}
use Rattle.wf_words.specs.WordViews.{WordViewSeen, IsWordView, IsYesIn}
use Rattle.wf_words.proofs.StatesTried.{none_more, none_of_all, no_told, yes_told}
use Rattle.wf_words.proofs.WordCosts.{cost_of_state, cost_of_all}
use Rattle.wf_words.proofs.some_state.is_yes_in_some.Goals as goal

pub returns-then-is_yes_in-clause-yes : goal.returns-then-is_yes_in-clause-yes
returns-then-is_yes_in-clause-yes g c u x y of hx hy ex ey =
    yes_told ((t : ℕ) × IsYesIn c.args.words.now u x y t) (c.loop-state.state, (c.is_yes_in.ensures.yes u x y of hx hy ex ey).0 c.if-is_yes_in.true)

pub loop-state-init : goal.loop-state-init
loop-state-init g c = record {
  none = λ u x y of hx hy ex ey t below. absurd (omega (arith, below));
  room = refl;
  label_room = refl;
  cost = λ most few. omega arith;
}

pub loop-state-preserved : goal.loop-state-preserved
loop-state-preserved g c = record {
  none = λ u x y of hx hy ex ey. none_more c.args.words.now u x y c.loop-state.state (c.loop-state.invariant.none u x y of hx hy ex ey) (λ h. true≢false (sym ((c.is_yes_in.ensures.yes u x y of hx hy ex ey).1 h) ∙ c.if-is_yes_in.false));
  room = c.is_yes_in.ensures.room ∙ c.loop-state.invariant.room;
  label_room = c.is_yes_in.ensures.label_room ∙ c.loop-state.invariant.label_room;
  cost = λ most few. cost_of_state c.args.words.now.automaton c.loop-state.state c.args.steps.now c.loop-state.steps c.is_yes_in.new.steps _ (c.loop-state.invariant.cost most few) c.is_yes_in.ensures.idle (c.is_yes_in.ensures.cost most few);
}

pub returns-clause-yes : goal.returns-clause-yes
returns-clause-yes g c u x y of hx hy ex ey =
    let w = c.args.words.now in
    let high = subst (λ n. n ≤ c.loop-state.state) (c.states-state-end.ensures.states ∙ ap (λ (w : WordViewSeen). w.automaton.states) c.words.view_is) c.loop-state-test.false in
    no_told ((t : ℕ) × IsYesIn w u x y t) false refl (none_of_all w u x y c.loop-state.state (subst IsWordView c.words.view_is c.words.invariant) high (c.loop-state.invariant.none u x y of hx hy ex ey))

pub returns-then-is_yes_in-clause-cost : goal.returns-then-is_yes_in-clause-cost
returns-then-is_yes_in-clause-cost g c most few =
    let w = c.args.words.now in
    let low = subst (λ n. c.loop-state.state < n) (c.states-state-end.ensures.states ∙ ap (λ (w : WordViewSeen). w.automaton.states) c.words.view_is) c.loop-state-test.true in
    cost_of_all w.automaton (c.loop-state.state + 1) c.args.steps.now c.is_yes_in.new.steps _
    (cost_of_state w.automaton c.loop-state.state c.args.steps.now c.loop-state.steps c.is_yes_in.new.steps _ (c.loop-state.invariant.cost most few) c.is_yes_in.ensures.idle (c.is_yes_in.ensures.cost most few)) (omega (arith, low))

pub returns-clause-cost : goal.returns-clause-cost
returns-clause-cost g c most few =
    let low = subst (λ n. c.loop-state.state ≤ n) (c.states-state-end.ensures.states ∙ ap (λ (w : WordViewSeen). w.automaton.states) c.words.view_is) c.loop-state.auto.state-end in
    cost_of_all c.args.words.now.automaton c.loop-state.state c.args.steps.now c.loop-state.steps _ (c.loop-state.invariant.cost most few) low
