use Rattle.std.proofs.Common.{refl, subst}
use Rattle.std.specs.Prelude.{MatchOption}
use Rattle.wf_loops.specs.Looped.{loop_in}
use Rattle.wf_translate.specs.Readable.{ReadsOut}
use Rattle.wf_translate.specs.Chains.{IsChainRead, steps_seen}
use Rattle.wf_translate.proofs.Options.{at_error}
use Rattle.wf_translate.proofs.Turning.{turn_none, turn_told, part_of}
use Rattle.wf_translate.proofs.place.read_turn.Goals as goal
use Rattle.wf_translate.proofs.place.read_turn.Goals.{In-Some}

-- the chain number that was read
chain : (c : In-Some) → IsChainRead c.args.looped.now.accepted.grammar.core (loop_in c.args.looped.now.steps) c.args.m.0 c.args.reader.now.left c.pass_chain.new.reader.left
    (steps_seen c.args.steps.now.items) (steps_seen c.pass_chain.new.steps.items) c.in-Some.from.module.0 c.in-Some.from.last
chain c =
    let l = c.args.looped.now in
    let g = l.accepted.grammar.core in
    let loop = loop_in l.steps in
    subst (λ o. MatchOption o (ReadsOut g loop c.args.m.0 c.args.reader.now.left)
    (λ e. IsChainRead g loop c.args.m.0 c.args.reader.now.left c.pass_chain.new.reader.left (steps_seen c.args.steps.now.items) (steps_seen c.pass_chain.new.steps.items) e.module.0 e.last)) c.in-Some.is c.in_ok-end.ensures.read

pub returns-in_default-clause-turn : goal.returns-in_default-clause-turn
returns-in_default-clause-turn c =
    let l = c.args.looped.now in
    let g = l.accepted.grammar.core in
    let loop = loop_in l.steps in
    subst (λ o. MatchOption o (ReadsOut g loop c.args.m.0 c.args.reader.now.left)
    (λ e. IsChainRead g loop c.args.m.0 c.args.reader.now.left c.pass_chain.new.reader.left (steps_seen c.args.steps.now.items) (steps_seen c.pass_chain.new.steps.items) e.module.0 e.last)) c.in_default.is c.in_ok-end.ensures.read

pub read_part-requires : goal.read_part-requires
read_part-requires c = (chain (goal.at.read_part-requires c).In-Some).told.in_range

pub returns-in_err-part-clause-malformed : goal.returns-in_err-part-clause-malformed
returns-in_err-part-clause-malformed c =
    let s = (goal.at.returns-in_err-part-clause-malformed c).In-Some in
    at_error _ c.from_residual-in_err-part.result
    (λ _ _ _. turn_none c.args.looped.now c.grammar-g.ensures.good c.args.m.0 c.args.reader.now.left c.pass_chain.new.reader.left (steps_seen c.args.steps.now.items) (steps_seen c.pass_chain.new.steps.items)
    c.in-Some.from.module.0 c.in-Some.from.last (chain s) (c.in_err-part.ensures.malformed refl))

pub tell_part-requires : goal.tell_part-requires
tell_part-requires c =
    part_of c.args.looped.now c.grammar-g.ensures.good c.grammar-g.result.now c.grammar-g.ensures.grammar c.in-Some.from.module.0 c.pass_chain.new.reader.left c.read_part.new.reader.left c.in_ok-part.part c.in_ok-part.ensures.read

pub returns-clause-turn : goal.returns-clause-turn
returns-clause-turn c =
    let s = (goal.at.returns-clause-turn c).In-Some in
    turn_told c.args.looped.now c.grammar-g.ensures.good c.grammar-g.result.now c.grammar-g.ensures.grammar c.args.m.0 c.args.reader.now.left c.pass_chain.new.reader.left c.read_part.new.reader.left
    (steps_seen c.args.steps.now.items) (steps_seen c.pass_chain.new.steps.items) (steps_seen c.tell_part.new.steps.items) c.in-Some.from.module.0 c.in-Some.from.last c.in_ok-part.part c.in_ok-turn.turn (chain s) c.in_ok-part.ensures.read c.in_ok-turn.ensures
