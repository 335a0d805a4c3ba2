use Rattle.std.proofs.Common.{◌≡◌, ◌==◌, false, None, refl, subst, arith}
use Rattle.std.proofs.lemmas.Bool.{or_right}
use Rattle.std.proofs.lemmas.Bool.Decides.{nat_tests}
use Rattle.wf_gen.specs.Held.{IsDrawn, state_of}
use Rattle.wf_gen.proofs.Coming.{none_held, some_held, some_pending, nothing_next, turn_next, turn_kept}
use Rattle.wf_gen.proofs.next.coming_turn.Goals as goal

pub returns-then-is_empty-clause-turn : goal.returns-then-is_empty-clause-turn
returns-then-is_empty-clause-turn c =
    let begun : c.args.state.now.made == 0 ≡ false = grind (arith, nat_tests, c.requires.begun) in
    nothing_next c.args.g.grammar.now.core c.args.most c.args.left.now (state_of c.args.state.now) begun
    (or_right _ _ (none_held c.args.state.now.pending.items _ _ c.args.state.now.pending.ok.0 c.is_empty.ensures c.if-is_empty.true))

pub returns-in-None-clause-turn : goal.returns-in-None-clause-turn
returns-in-None-clause-turn c =
    let begun : c.args.state.now.made == 0 ≡ false = grind (arith, nat_tests, c.requires.begun) in
    turn_next c.args.g.grammar.now.core c.args.most c.args.left.now 0 (state_of c.args.state.now) (state_of c.draw_turn.new.state) None (omega (arith, c.if-left-eq0.false)) begun
    (some_held c.args.state.now.pending.items _ _ c.args.state.now.pending.ok.0 c.is_empty.ensures c.if-is_empty.false)
    (subst (λ o. IsDrawn c.args.g.grammar.now.core c.args.most (state_of c.args.state.now) o (state_of c.draw_turn.new.state)) c.in-None.is c.in_ok-drawn.ensures.drawn) refl

pub returns-in-None-clause-kept : goal.returns-in-None-clause-kept
returns-in-None-clause-kept c =
    let begun : c.args.state.now.made == 0 ≡ false = grind (arith, nat_tests, c.requires.begun) in
    turn_kept c.args.g.grammar.now.core c.args.most c.start-formed.ensures.formed (state_of c.args.state.now) (state_of c.draw_turn.new.state) None
    (some_pending _ (some_held c.args.state.now.pending.items _ _ c.args.state.now.pending.ok.0 c.is_empty.ensures c.if-is_empty.false)) begun c.requires.kept
    (subst (λ o. IsDrawn c.args.g.grammar.now.core c.args.most (state_of c.args.state.now) o (state_of c.draw_turn.new.state)) c.in-None.is c.in_ok-drawn.ensures.drawn)
