use Rattle.std.proofs.Common.{◌∙◌, ◌++◌, ◌+◌, take, ap, subst}
use Rattle.bit_pack.specs.Gamma.{gamma}
use Rattle.words_model.specs.Lifting.{in_state}
use Rattle.wf_words.specs.LastParts.{AreLiftedBits}
use Rattle.wf_words.specs.WordViews.{WordViewSeen, IsWordView}
use Rattle.wf_words.proofs.StatesTried.{written_in, label_there, lifted_told}
use Rattle.wf_words.proofs.verdict.is_lifted_yes.Given.{Over}
use Rattle.wf_words.proofs.verdict.is_lifted_yes.Goals as goal
use Rattle.wf_words.proofs.verdict.is_lifted_yes.Goals.{After-written}

-- the first label was written in the start state
lifted : (g : Over) (c : After-written g) → AreLiftedBits c.args.words.now.plain.grammar c.args.words.now.automaton.states c.args.words.now.automaton.start c.args.first.now c.written.result
lifted g c =
    let w = c.args.words.now in
    let last = c.last_part-last.result in
    let start = c.start.ensures.start ∙ ap (λ (w : WordViewSeen). w.automaton.start) c.words.view_is in
    written_in w c.linear.result.grammar.now.core c.args.first.now c.written.result last.at last.number c.states.result w.automaton.start
    (c.linear.ensures.grammar ∙ ap (λ (w : WordViewSeen). w.plain.grammar) c.words.view_is)
    (c.states.ensures.states ∙ ap (λ (w : WordViewSeen). w.automaton.states) c.words.view_is)
    c.last_part-last.ensures.part
    (c.written.ensures ∙ (c.write_lifted.ensures.bits ∙ ap (λ s. take last.at c.args.first.now ++ gamma (in_state c.states.result s last.number + 1)) start))

pub is_yes_in_some-requires-clause-first : goal.is_yes_in_some-requires-clause-first
is_yes_in_some-requires-clause-first g c =
    let w = c.args.words.now in
    let is = subst IsWordView c.words.view_is c.words.invariant in
    label_there w w.automaton.start c.args.first.now c.written.result is is.fits.automaton.start c.requires.first (lifted g (goal.at.is_yes_in_some-requires-clause-first g c).After-written)

pub returns-clause-yes : goal.returns-clause-yes
returns-clause-yes g c =
    let is = subst IsWordView c.words.view_is c.words.invariant in
    lifted_told c.args.words.now c.args.first.now c.written.result c.args.second.now is (lifted g (goal.at.returns-clause-yes g c).After-written) c.is_yes_in_some.result c.is_yes_in_some.ensures.yes
