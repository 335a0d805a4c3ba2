use Rattle.std.proofs.Common.{◌≡◌, ◌<◌, length, sym, ap, ◌∙◌, subst, arith}
use Rattle.std.proofs.lemmas.List.{length-set}
use Rattle.words_model.specs.Automata.{next_state}
use Rattle.words_model.specs.Lifting.{in_state}
use Rattle.words_model.proofs.LiftedPairs.{next_below}
use Rattle.wf_lift.proofs.LiftedPairs.{state_more, state_all}
use Rattle.wf_lift.proofs.pairs.add_pair.Goals as goal

pub in_state-o-requires-clause-state : goal.in_state-o-requires-clause-state
in_state-o-requires-clause-state c =
    let low : c.loop-s.s < c.args.automaton.now.states = subst (λ k. c.loop-s.s < k) (sym c.requires.same) c.loop-s-test.true in
    subst (λ t. t < c.args.states) (sym c.next-t.ensures)
    (subst (λ k. next_state c.args.automaton.now c.loop-s.s c.args.m.0 < k) c.requires.same (next_below c.args.automaton.now c.states-formed.ensures.formed c.loop-s.s c.args.m.0 low))

pub loop-s-preserved : goal.loop-s-preserved
loop-s-preserved c =
    let a = c.args.automaton.now in
    let i = c.in_state-i.result in
    let o = c.in_state-o.result in
    let is : i ≡ in_state a.states c.loop-s.s c.args.input = c.in_state-i.ensures.number ∙ ap (λ k. in_state k c.loop-s.s c.args.input) (sym c.requires.same) in
    let to : o ≡ in_state a.states (next_state a c.loop-s.s c.args.m.0) c.args.output =
    c.in_state-o.ensures.number ∙ (ap (λ k. in_state k c.next-t.result c.args.output) (sym c.requires.same) ∙ ap (λ t. in_state a.states t c.args.output) c.next-t.ensures) in
    let inside : i < length c.loop-s.rows = (let e = c.in_state-i.ensures.number in let r = c.requires.input in let l = c.loop-s-test.true in let n = c.loop-s.invariant.as_many in omega arith) in
    record {
      as_many = length-set c.loop-s.rows i _ ∙ c.loop-s.invariant.as_many;
      added = state_more a c.args.m.0 c.args.input c.args.output c.args.rows.now c.loop-s.rows c.loop-s.s i o c.loop-s.invariant.added is to inside c.in_state-o.ensures.few;
    }

pub returns-clause-added : goal.returns-clause-added
returns-clause-added c =
    let a = c.args.automaton.now in
    let end : c.loop-s.s ≡ a.states = (let t = c.loop-s-test.false in let e = c.loop-s.auto.s-end in let q = c.requires.same in omega arith) in
    state_all a c.args.m.0 c.args.input c.args.output c.args.rows.now c.loop-s.rows c.loop-s.s end c.loop-s.invariant.added
