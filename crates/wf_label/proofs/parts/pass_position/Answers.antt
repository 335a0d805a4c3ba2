use Rattle.std.proofs.Common.{◌≡◌, ◌↔◌, ℕ, ◌+◌, ◌<◌, ◌++◌, ◌∙◌, true, false, List, length, get_or, map, refl, sym, ap, subst}
use Rattle.wf_model.specs.declared.body.Position.{Position as PositionHeld}
use Rattle.wf_model.specs.Grammar.{Position, Production, production_at, head_of}
use Rattle.wf_model.specs.Meaning.{position_of}
use Rattle.wf_model.specs.Reach.{Step}
use Rattle.wf_model.specs.Linear.{IsStepOf}
use Rattle.wf_recur.proofs.Stepping.{module_read, target_below}
use Rattle.bit_pack.specs.Gamma.{gamma}
use Rattle.label_model.specs.Continuing.{continues}
use Rattle.label_model.specs.Reading.{IsPlaceLeft}
use Rattle.label_model.proofs.ContinuingSteps.{continues_gives, continues_not}
use Rattle.wf_label.specs.Parts.{HasNoNumber, IsStepByLeft}
use Rattle.wf_label.proofs.Passes.{passed_number}
use Rattle.wf_label.proofs.PartsLeft.{step_left, continuing_left, no_position}
use Rattle.wf_label.proofs.parts.pass_position.Goals as goal
use Rattle.wf_label.proofs.Counts.{positions_held}

pub returns-in_err-i-clause-malformed : goal.returns-in_err-i-clause-malformed
returns-in_err-i-clause-malformed b c = λ _.
    let g = c.args.g.grammar.now.core in
    let p = c.args.p.0 in
    let left = (b.R.Codes.reading c.args.reader.now).left in
    let few = positions_held c.positions-positions.result.now c.production-rule.result.now.core (production_at g p) c.positions-positions.ensures c.production-rule.ensures.core in
    no_position g p left c.requires.in_range (subst (λ n. HasNoNumber n left) few (c.in_err-i.ensures.malformed refl))

-- the module at a position, as it is held
read : (xs : List PositionHeld) (r s : Production) (k : ℕ) (d : PositionHeld) → map position_of xs ≡ r.positions → r ≡ s → k < length xs →
    (k < length (map (λ (q : Position). q.module_no) s.positions)) × ((get_or xs k d).module.0 ≡ get_or (map (λ (q : Position). q.module_no) s.positions) k 0)
read xs r s k d are is h =
    let inside : k < length (map (λ (q : Position). q.module_no) s.positions) = subst (λ n. k < n) (positions_held xs r s are is) h in
    (inside, module_read xs k d s.positions (are ∙ ap (λ (z : Production). z.positions) is) inside)

pub returns-then-is_continuing-clause-malformed : goal.returns-then-is_continuing-clause-malformed
returns-then-is_continuing-clause-malformed b c = λ _ h.
    let g = c.args.g.grammar.now.core in
    let p = c.args.p.0 in
    let t : Step = record { production = p; position = c.in_ok-i.i } in
    let head = c.head.ensures ∙ ap (λ (r : Production). r.head) c.production-rule.ensures.core in
    let is = continues_gives g (head_of g p) t (subst (λ m. continues g m t ≡ true) head (sym c.is_continuing.ensures ∙ c.if-is_continuing.true)) in
    continuing_left g t (b.R.Codes.reading c.next_number.new.self).left is c.requires.in_range (subst (IsStepByLeft g p) c.in_ok-i.ensures.read.is h)

pub returns-clause-in_range : goal.returns-clause-in_range
returns-clause-in_range b c =
    let g = c.args.g.grammar.now.core in
    let p = c.args.p.0 in
    let t : Step = record { production = p; position = c.in_ok-i.i } in
    let at = read c.positions-positions.result.now c.production-rule.result.now.core (production_at g p) c.in_ok-i.i c.index-positions-i.result c.positions-positions.ensures c.production-rule.ensures.core c.in_ok-i.ensures.below in
    subst (λ n. n < length g.modules) (sym at.1) (target_below g c.production-rule.ensures.formed t c.requires.in_range at.0)

pub returns-clause-passed : goal.returns-clause-passed
returns-clause-passed b c =
    let g = c.args.g.grammar.now.core in
    let p = c.args.p.0 in
    let i = c.in_ok-i.i in
    let t : Step = record { production = p; position = i } in
    let k = (get_or c.positions-positions.result.now i c.index-positions-i.result).module.0 in
    let at = read c.positions-positions.result.now c.production-rule.result.now.core (production_at g p) i c.index-positions-i.result c.positions-positions.ensures c.production-rule.ensures.core c.in_ok-i.ensures.below in
    let head = c.head.ensures ∙ ap (λ (r : Production). r.head) c.production-rule.ensures.core in
    let leaves = continues_not g (head_of g p) t (subst (λ m. continues g m t ≡ false) head (sym c.is_continuing.ensures ∙ c.if-is_continuing.false)) in
    let of_it : IsStepOf g (head_of g p) t = record { in_range = c.requires.in_range; head = refl; position = at.0 } in
    passed_number (IsStepByLeft g p) (IsPlaceLeft g k) i (b.R.Codes.reading c.args.reader.now) (b.R.Codes.reading c.next_number.new.self) c.in_ok-i.ensures.read
    (λ left. subst (λ m. IsStepByLeft g p (gamma (i + 1) ++ left) ↔ IsPlaceLeft g m left) (sym at.1) (step_left g t of_it leaves left))
