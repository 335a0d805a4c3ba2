use Rattle.std.proofs.Common.{◌≡◌, ◌==◌, false, arith}
use Rattle.std.proofs.lemmas.Bool.Decides.{nat_tests}
use Rattle.wf_gen.specs.Held.{state_of}
use Rattle.wf_gen.proofs.Coming.{start_kept}
use Rattle.wf_gen.proofs.Taking.{taken_first, taken_kept}
use Rattle.wf_gen.proofs.next.next_event.Goals as goal

pub returns-then-state-eq0-clause-kept : goal.returns-then-state-eq0-clause-kept
returns-then-state-eq0-clause-kept c =
    start_kept c.args.g.grammar.now.core c.args.most c.start-formed.ensures.formed (state_of c.args.state.now) _ c.requires c.in_ok-start.ensures.started

pub returns-clause-next : goal.returns-clause-next
returns-clause-next c =
    let begun : c.args.state.now.made == 0 ≡ false = grind (arith, nat_tests, c.if-state-eq0.false) in
    taken_first c.args.g.grammar.now.core c.args.most c.args.left.now _ (state_of c.args.state.now) (state_of c.coming_turn.new.state) _ c.in-Some.drawn c.in_ok-drawn.ensures.turn c.in-Some.is
    (state_of c.take_turn.new.state) c.in_ok-take_turn.ensures.taken c.in_ok-event-2.event begun c.in_ok-event-2.ensures

pub returns-clause-kept : goal.returns-clause-kept
returns-clause-kept c =
    let begun : c.args.state.now.made == 0 ≡ false = grind (arith, nat_tests, c.if-state-eq0.false) in
    taken_kept c.args.g.grammar.now.core c.args.most c.args.left.now _ (state_of c.args.state.now) (state_of c.coming_turn.new.state) _ c.in-Some.drawn c.in_ok-drawn.ensures.turn c.in-Some.is
    (state_of c.take_turn.new.state) c.in_ok-take_turn.ensures.taken c.start-formed.ensures.formed begun c.requires
