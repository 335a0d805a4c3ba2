use Rattle.std.proofs.Common.{◌≡◌, ◌<◌, ◌∙◌, length, refl, sym, ap, subst}
use Rattle.wf_model.specs.Grammar.{production_at, body_of}
use Rattle.wf_model.specs.Reach.{Step}
use Rattle.wf_spec.specs.Held.{HeldGrammar}
use Rattle.wf_label.proofs.Counts.{positions_held}
use Rattle.wf_loops.specs.Looped.{loop_in}
use Rattle.wf_translate.proofs.PartsRead.{position_read, no_position, loop_position}
use Rattle.wf_translate.proofs.part.read_position.Goals as goal
use Rattle.wf_translate.proofs.part.read_position.Goals.{After-positions-positions}

-- how many positions there are
count : (c : After-positions-positions) → length c.positions-positions.result.now ≡ length (body_of c.args.looped.now.accepted.grammar.core c.args.p.0)
count c =
    let p = c.args.p.0 in
    positions_held c.positions-positions.result.now c.production-rule.result.now.core (production_at c.args.looped.now.accepted.grammar.core p) c.positions-positions.ensures
    (c.production-rule.ensures.core ∙ ap (λ (h : HeldGrammar). production_at h.core p) c.grammar-g.ensures.grammar)

pub returns-in_err-i-clause-malformed : goal.returns-in_err-i-clause-malformed
returns-in_err-i-clause-malformed c = λ _.
    let s = (goal.at.returns-in_err-i-clause-malformed c).After-positions-positions in
    no_position c.args.looped.now.accepted.grammar.core (loop_in c.args.looped.now.steps) c.args.m.0 c.args.p.0 (length c.positions-positions.result.now) c.args.reader.now.left (count s) (c.in_err-i.ensures.malformed refl)

pub returns-then-is_loop-clause-malformed : goal.returns-then-is_loop-clause-malformed
returns-then-is_loop-clause-malformed c = λ _.
    let t : Step = record { production = c.args.p.0; position = c.in_ok-i.i } in
    loop_position c.args.looped.now.accepted.grammar.core (loop_in c.args.looped.now.steps) c.args.m.0 c.args.p.0 t c.args.reader.now.left c.read_number.new.reader.left refl (sym c.is_loop.ensures ∙ c.if-is_loop.true) c.in_ok-i.ensures.read

pub returns-clause-read : goal.returns-clause-read
returns-clause-read c =
    let s = (goal.at.returns-clause-read c).After-positions-positions in
    let t : Step = record { production = c.args.p.0; position = c.in_ok-i.i } in
    position_read c.args.looped.now.accepted.grammar.core (loop_in c.args.looped.now.steps) c.args.m.0 c.args.p.0 t c.args.reader.now.left c.read_number.new.reader.left c.requires refl
    (subst (λ n. c.in_ok-i.i < n) (count s) c.in_ok-i.ensures.below) (sym c.is_loop.ensures ∙ c.if-is_loop.false) c.in_ok-i.ensures.read
