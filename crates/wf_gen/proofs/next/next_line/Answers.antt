use Rattle.std.proofs.Common.{◌≡◌, ◌==◌, false, refl, arith}
use Rattle.std.proofs.lemmas.Bool.Decides.{nat_tests}
use Rattle.wf_model.specs.declared.event.Event.TheVariants.{Start}
use Rattle.numbered_names.specs.Names.{numbered_name}
use Rattle.wf_gen.specs.Held.{event_drawn, state_of}
use Rattle.wf_gen.proofs.Coming.{start_next, start_kept}
use Rattle.wf_gen.proofs.Taking.{taken_first, taken_kept}
use Rattle.wf_gen.proofs.next.next_line.Goals as goal

pub returns-then-state-eq0-clause-next : goal.returns-then-state-eq0-clause-next
returns-then-state-eq0-clause-next c = (
  Start (numbered_name 0),
  start_next c.args.g.grammar.now.core c.args.most c.args.left.now (state_of c.args.state.now) _ c.if-state-eq0.true c.in_ok-start_line.ensures.started,
  c.in_ok-start_line.ensures.line,
)

pub returns-then-state-eq0-clause-kept : goal.returns-then-state-eq0-clause-kept
returns-then-state-eq0-clause-kept c =
    start_kept c.args.g.grammar.now.core c.args.most c.start-formed.ensures.formed (state_of c.args.state.now) _ c.requires c.in_ok-start_line.ensures.started

pub returns-clause-next : goal.returns-clause-next
returns-clause-next c =
    let begun : c.args.state.now.made == 0 ≡ false = grind (arith, nat_tests, c.if-state-eq0.false) in (
      event_drawn c.coming_turn.new.state.made c.in-Some.drawn,
      taken_first c.args.g.grammar.now.core c.args.most c.args.left.now _ (state_of c.args.state.now) (state_of c.coming_turn.new.state) _ c.in-Some.drawn c.in_ok-drawn.ensures.turn c.in-Some.is
          (state_of c.turn_line.new.state) c.in_ok-turn_line.ensures.taken (event_drawn c.coming_turn.new.state.made c.in-Some.drawn) begun refl,
      c.in_ok-turn_line.ensures.line,
    )

pub returns-clause-kept : goal.returns-clause-kept
returns-clause-kept c =
    let begun : c.args.state.now.made == 0 ≡ false = grind (arith, nat_tests, c.if-state-eq0.false) in
    taken_kept c.args.g.grammar.now.core c.args.most c.args.left.now _ (state_of c.args.state.now) (state_of c.coming_turn.new.state) _ c.in-Some.drawn c.in_ok-drawn.ensures.turn c.in-Some.is
    (state_of c.turn_line.new.state) c.in_ok-turn_line.ensures.taken c.start-formed.ensures.formed begun c.requires
