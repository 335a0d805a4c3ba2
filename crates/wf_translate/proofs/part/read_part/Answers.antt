use Rattle.std.proofs.Common.{◌≡◌, ◌+◌, ◌++◌, length, refl, subst}
use Rattle.wf_model.specs.Grammar.{production_at, alternative_of, IsProductionOf}
use Rattle.bit_pack.specs.Gamma.{gamma}
use Rattle.wf_spec.specs.Held.{HeldGrammar}
use Rattle.wf_label.specs.Parts.{HasNoAlternative}
use Rattle.wf_loops.specs.Looped.{loop_in}
use Rattle.wf_translate.specs.Parts.{IsLastNumber, HasNoLastNumber}
use Rattle.wf_translate.proofs.PartsRead.{part_step, part_end, no_bit, no_alternative, no_step_position, no_edge}
use Rattle.wf_translate.proofs.part.read_part.Goals as goal
use Rattle.wf_translate.proofs.part.read_part.Goals.{In_ok-production}

-- the production that was read
of_it : (c : In_ok-production) → IsProductionOf c.args.looped.now.accepted.grammar.core c.in_ok-production.production.0 c.args.m.0
of_it c = subst (λ (h : HeldGrammar). IsProductionOf h.core c.in_ok-production.production.0 c.args.m.0) c.grammar-g.ensures.grammar c.in_ok-production.ensures.production

-- and its code
code : (c : In_ok-production) → c.read_bit.new.reader.left ≡ gamma (alternative_of c.args.looped.now.accepted.grammar.core c.in_ok-production.production.0 + 1) ++ c.read_alternative.new.reader.left
code c = subst (λ (h : HeldGrammar). c.read_bit.new.reader.left ≡ gamma (alternative_of h.core c.in_ok-production.production.0 + 1) ++ c.read_alternative.new.reader.left) c.grammar-g.ensures.grammar c.in_ok-production.ensures.read

pub returns-in_err-is_step-clause-malformed : goal.returns-in_err-is_step-clause-malformed
returns-in_err-is_step-clause-malformed c = λ _.
    no_bit c.args.looped.now.accepted.grammar.core (loop_in c.args.looped.now.steps) c.args.m.0 c.args.reader.now.left (c.in_err-is_step.ensures.ended refl)

pub returns-in_err-production-clause-malformed : goal.returns-in_err-production-clause-malformed
returns-in_err-production-clause-malformed c = λ _.
    no_alternative c.args.looped.now.accepted.grammar.core (loop_in c.args.looped.now.steps) c.args.m.0 c.in_ok-is_step.is_step c.args.reader.now.left c.read_bit.new.reader.left c.in_ok-is_step.ensures.bit
    (subst (λ (h : HeldGrammar). HasNoAlternative h.core c.args.m.0 c.read_bit.new.reader.left) c.grammar-g.ensures.grammar (c.in_err-production.ensures.malformed refl))

pub read_position-requires : goal.read_position-requires
read_position-requires c = of_it (goal.at.read_position-requires c).In_ok-production

pub returns-in_err-step-clause-malformed : goal.returns-in_err-step-clause-malformed
returns-in_err-step-clause-malformed c = λ _.
    let s = (goal.at.returns-in_err-step-clause-malformed c).In_ok-production in
    no_step_position c.args.looped.now.accepted.grammar.core (loop_in c.args.looped.now.steps) c.args.m.0 c.in_ok-production.production.0 c.in_ok-is_step.is_step c.args.reader.now.left c.read_bit.new.reader.left c.read_alternative.new.reader.left
    (of_it s) c.in_ok-is_step.ensures.bit c.if-is_step.true (code s) (c.in_err-step.ensures.malformed refl)

pub returns-then-is_step-clause-read : goal.returns-then-is_step-clause-read
returns-then-is_step-clause-read c =
    let s = (goal.at.returns-then-is_step-clause-read c).In_ok-production in
    part_step c.args.looped.now.accepted.grammar.core (loop_in c.args.looped.now.steps) c.args.m.0 c.in_ok-production.production.0 c.in_ok-is_step.is_step _ c.args.reader.now.left c.read_bit.new.reader.left c.read_alternative.new.reader.left c.read_position.new.reader.left
    c.in_ok-is_step.ensures.bit c.if-is_step.true (code s) c.in_ok-step.ensures.read

pub returns-in_err-edge-clause-malformed : goal.returns-in_err-edge-clause-malformed
returns-in_err-edge-clause-malformed c = λ _.
    let s = (goal.at.returns-in_err-edge-clause-malformed c).In_ok-production in
    let p = c.in_ok-production.production.0 in
    let left = c.read_alternative.new.reader.left in
    no_edge c.args.looped.now.accepted.grammar.core (loop_in c.args.looped.now.steps) c.args.m.0 p c.in_ok-is_step.is_step c.args.reader.now.left c.read_bit.new.reader.left left
    (of_it s) c.in_ok-is_step.ensures.bit c.if-is_step.false (code s)
    (subst (λ (h : HeldGrammar). HasNoLastNumber (length (production_at h.core p).edges) left) c.grammar-g.ensures.grammar (c.in_err-edge.ensures.malformed refl))

pub returns-clause-read : goal.returns-clause-read
returns-clause-read c =
    let s = (goal.at.returns-clause-read c).In_ok-production in
    let p = c.in_ok-production.production.0 in
    let left = c.read_alternative.new.reader.left in
    part_end c.args.looped.now.accepted.grammar.core (loop_in c.args.looped.now.steps) c.args.m.0 p c.in_ok-is_step.is_step c.in_ok-edge.edge.0 c.args.reader.now.left c.read_bit.new.reader.left left
    (of_it s) c.in_ok-is_step.ensures.bit c.if-is_step.false (code s)
    (subst (λ (h : HeldGrammar). IsLastNumber (length (production_at h.core p).edges) left c.in_ok-edge.edge.0) c.grammar-g.ensures.grammar c.in_ok-edge.ensures.read)
