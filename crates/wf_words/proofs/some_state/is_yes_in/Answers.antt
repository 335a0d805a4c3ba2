use Rattle.std.proofs.Common.{◌≡◌, ◌≤◌, ◌+◌, ◌∙◌, ℕ, length, refl, ap, sym, subst, arith}
use Rattle.wf_model.specs.Lists.{IsIn}
use Rattle.decode_model.specs.Counts.{most_products}
use Rattle.wf_recur.specs.Cycles.{round_at}
use Rattle.wf_label.specs.Values.{AreLabelBits}
use Rattle.wf_words.specs.LastParts.{AreLiftedBits}
use Rattle.wf_words.specs.WordViews.{WordViewSeen, IsWordView}
use Rattle.wf_words.proofs.StatesTried.{yes_there, other_there, written_in, label_there, decided_there}
use Rattle.wf_words.proofs.some_state.is_yes_in.Given.{Over}
use Rattle.wf_words.proofs.some_state.is_yes_in.Goals as goal
use Rattle.wf_words.proofs.some_state.is_yes_in.Goals.{After-written}

-- the second label was written in the state
lifted : (g : Over) (c : After-written g) → AreLiftedBits c.args.words.now.plain.grammar c.args.words.now.automaton.states c.args.state c.args.second.now c.written.result
lifted g c =
    let w = c.args.words.now in
    written_in w w.plain.grammar c.args.second.now c.written.result c.args.last.at c.args.last.number c.states.result c.args.state refl
    (c.states.ensures.states ∙ ap (λ (w : WordViewSeen). w.automaton.states) c.words.view_is) c.requires.last (c.written.ensures ∙ c.write_lifted.ensures.bits)

pub decide-verdict-requires-clause-second : goal.decide-verdict-requires-clause-second
decide-verdict-requires-clause-second g c =
    let is = subst IsWordView c.words.view_is c.words.invariant in
    subst (λ (w : WordViewSeen). AreLabelBits w.lifted.grammar c.written.result) (sym c.words.view_is)
    (label_there c.args.words.now c.args.state c.args.second.now c.written.result is c.requires.state c.requires.second (lifted g (goal.at.decide-verdict-requires-clause-second g c).After-written))

pub returns-in-Yes-clause-yes : goal.returns-in-Yes-clause-yes
returns-in-Yes-clause-yes g c u x y of hx hy ex ey =
    let w = c.args.words.now in
    let is = subst IsWordView c.words.view_is c.words.invariant in
    yes_there w u x y c.args.state c.decide-verdict.result
    (decided_there c.words.inside.lifted.now w (ap (λ (w : WordViewSeen). w.lifted) c.words.view_is) c.args.state c.decide-verdict.result c.copied.result c.args.first.now c.written.result c.args.second.now is c.requires.state c.copied.ensures
    (lifted g (goal.at.returns-in-Yes-clause-yes g c).After-written) c.decide-verdict.ensures.verdict u x y of hx hy ex ey)
    (subst (λ (w : WordViewSeen). IsIn c.args.state w.automaton.accept) c.words.view_is (c.accepts.ensures.0 c.if-not-accepts.false))
    c.in-Yes.is

pub returns-in-Yes-clause-idle : goal.returns-in-Yes-clause-idle
returns-in-Yes-clause-idle g c none = absurd (none (subst (λ (w : WordViewSeen). IsIn c.args.state w.automaton.accept) c.words.view_is (c.accepts.ensures.0 c.if-not-accepts.false)))

-- what the decision took
dear : (w v : WordViewSeen) → w ≡ v → (old new : ℕ) → ((l : ℕ) → ((k : ℕ) → length (round_at w.lifted.cycles k) ≤ l) → new ≤ old + most_products w.lifted.grammar l) → (l : ℕ) → ((k : ℕ) → length (round_at v.lifted.cycles k) ≤ l) → new ≤ old + most_products v.lifted.grammar l
dear w v e old new h = subst (λ (z : WordViewSeen). (l : ℕ) → ((k : ℕ) → length (round_at z.lifted.cycles k) ≤ l) → new ≤ old + most_products z.lifted.grammar l) e h

pub returns-in-Yes-clause-cost : goal.returns-in-Yes-clause-cost
returns-in-Yes-clause-cost g c = dear _ c.args.words.now c.words.view_is c.args.steps.now c.decide-verdict.new.steps c.decide-verdict.ensures.cost

pub returns-in_default : goal.returns-in_default
returns-in_default g c =
    let w = c.args.words.now in
    let is = subst IsWordView c.words.view_is c.words.invariant in
    record {
      yes = λ u x y of hx hy ex ey.
          other_there w u x y c.args.state c.decide-verdict.result
          (decided_there c.words.inside.lifted.now w (ap (λ (w : WordViewSeen). w.lifted) c.words.view_is) c.args.state c.decide-verdict.result c.copied.result c.args.first.now c.written.result c.args.second.now is c.requires.state c.copied.ensures
          (lifted g (goal.at.returns-in_default g c).After-written) c.decide-verdict.ensures.verdict u x y of hx hy ex ey)
          c.in_default.not-Yes;
      room = c.decide-verdict.ensures.room;
      label_room = c.write_lifted.ensures.room;
      idle = λ none. absurd (none (subst (λ (w : WordViewSeen). IsIn c.args.state w.automaton.accept) c.words.view_is (c.accepts.ensures.0 c.if-not-accepts.false)));
      cost = dear _ w c.words.view_is c.args.steps.now c.decide-verdict.new.steps c.decide-verdict.ensures.cost;
    }

pub returns-then-not-accepts-clause-idle : goal.returns-then-not-accepts-clause-idle
returns-then-not-accepts-clause-idle g c out = refl

pub returns-then-not-accepts-clause-cost : goal.returns-then-not-accepts-clause-cost
returns-then-not-accepts-clause-cost g c most few = omega arith
