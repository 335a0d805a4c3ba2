use Rattle.std.proofs.Common.{◌≡◌, ℕ, ◌+◌, ◌<◌, Bool, true, false, List, ◌∷◌, ◌++◌, length, sym, ap, ◌∙◌, subst, arith, true≢false}
use Rattle.bit_pack.specs.Gamma.{gamma}
use Rattle.wf_model.specs.Grammar.{Grammar, Production, production_at, alternative_of, IsProductionOf}
use Rattle.wf_recur.proofs.Stepping.{module_read}
use Rattle.label_model.proofs.GrammarLimits.{few_edges}
use Rattle.label_model.proofs.GrammarSizes.{edge_within}
use Rattle.wf_label.specs.Parts.{HasNoNumber}
use Rattle.wf_label.specs.Marks.{Mark, BeginMarks}
use Rattle.wf_label.proofs.MarksRead.{IsPart, part_first, part_bit, part_alternative, part_number, part_read, marks_below, ok_from}
use Rattle.wf_label.proofs.place.read_part.Given.{Over}
use Rattle.wf_label.proofs.place.read_part.Goals as goal
use Rattle.wf_label.proofs.place.read_part.Goals.{After-unwrap-production}
use Rattle.wf_label.proofs.Counts.{positions_held, edges_held}

-- a step or an end comes first
part : (g : Grammar) (m : ℕ) (bits : List Bool) (marks : List Mark) → BeginMarks g m true bits marks → IsPart g m bits marks
part g m bits marks h = part_first g m true bits marks (λ e. absurd (true≢false e)) h

-- what is read up to the production
front : (over : Over) (c : After-unwrap-production over) (b : Bool) → c.unwrap-is_step.result ≡ b → (over.R.Codes.reading c.args.bits.now).left ≡ b ∷ (gamma (alternative_of c.args.g.now.core c.unwrap-production.result.0 + 1) ++ (over.R.Codes.reading c.read_alternative.new.reader).left)
front over c b e =
    let bit = rw c.unwrap-is_step.ensures at c.next_bit.ensures.ok in
    let number = rw c.unwrap-production.ensures at c.read_alternative.ensures.read in
    bit ∙ (ap (λ z. z ∷ (over.R.Codes.reading c.next_bit.new.self).left) e ∙ ap (λ z. b ∷ z) number.is)

of_it : (over : Over) (c : After-unwrap-production over) → IsProductionOf c.args.g.now.core c.unwrap-production.result.0 c.args.m.0
of_it over c = rw c.unwrap-production.ensures at c.read_alternative.ensures.production

pub unwrap-is_step-requires : goal.unwrap-is_step-requires
unwrap-is_step-requires over c =
    let g = c.args.g.now.core in
    let bits = (over.R.Codes.reading c.args.bits.now).left in
    ok_from c.next_bit.result (λ e. part_bit g c.args.m.0 bits c.requires.0 (part g c.args.m.0 bits c.requires.0 c.requires.1) (c.next_bit.ensures.ended e))

pub read_alternative-requires : goal.read_alternative-requires
read_alternative-requires over c = marks_below c.args.g.now.core c.start-formed.ensures.formed c.args.m.0 true c.requires.0 c.requires.1.of_it

pub unwrap-production-requires : goal.unwrap-production-requires
unwrap-production-requires over c =
    let g = c.args.g.now.core in
    let bits = (over.R.Codes.reading c.args.bits.now).left in
    let b = rw c.unwrap-is_step.ensures at c.next_bit.ensures.ok in
    ok_from c.read_alternative.result
    (λ e. part_alternative g c.args.m.0 c.unwrap-is_step.result bits (over.R.Codes.reading c.next_bit.new.self).left c.requires.0 (part g c.args.m.0 bits c.requires.0 c.requires.1) b (c.read_alternative.ensures.malformed e))

pub unwrap-i-requires : goal.unwrap-i-requires
unwrap-i-requires over c =
    let s = (goal.at.unwrap-i-requires over c).After-unwrap-production in
    let g = c.args.g.now.core in
    let bits = (over.R.Codes.reading c.args.bits.now).left in
    let p = c.unwrap-production.result.0 in
    let left = (over.R.Codes.reading c.read_alternative.new.reader).left in
    let few = positions_held c.positions-positions.result.now c.production-rule.result.now.core (production_at g p) c.positions-positions.ensures c.production-rule.ensures.core in
    ok_from c.next_number.result
    (λ e. part_number g c.args.m.0 p true bits left c.requires.0 (part g c.args.m.0 bits c.requires.0 c.requires.1) (of_it over s) (front over s true c.if-is_step.true) (subst (λ n. HasNoNumber n left) few (c.next_number.ensures.malformed e)))

-- what is read up to the number
whole : (b : Bool) (a n : ℕ) (bits old new : List Bool) → bits ≡ b ∷ (gamma (a + 1) ++ old) → old ≡ gamma (n + 1) ++ new → bits ≡ b ∷ (gamma (a + 1) ++ (gamma (n + 1) ++ new))
whole b a n bits old new e is = e ∙ ap (λ z. b ∷ (gamma (a + 1) ++ z)) is

pub returns-then-is_step-clause-read : goal.returns-then-is_step-clause-read
returns-then-is_step-clause-read over c = λ marks h.
    let s = (goal.at.returns-then-is_step-clause-read over c).After-unwrap-production in
    let g = c.args.g.now.core in
    let bits = (over.R.Codes.reading c.args.bits.now).left in
    let p = c.unwrap-production.result.0 in
    let n = c.unwrap-i.result in
    let xs = c.positions-positions.result.now in
    let left = (over.R.Codes.reading c.next_number.new.self).left in
    let few = positions_held xs c.production-rule.result.now.core (production_at g p) c.positions-positions.ensures c.production-rule.ensures.core in
    let low : n < length xs = rw c.unwrap-i.ensures at c.next_number.ensures.below in
    let number = rw c.unwrap-i.ensures at c.next_number.ensures.read in
    let at = module_read xs n c.index-positions-i.result (production_at g p).positions (c.positions-positions.ensures ∙ ap (λ (r : Production). r.positions) c.production-rule.ensures.core) (subst (λ z. n < z) few low) in
    let r = part_read g c.args.m.0 p n true bits left marks (part g c.args.m.0 bits marks h) (of_it over s)
    (whole true (alternative_of g p) n bits (over.R.Codes.reading c.read_alternative.new.reader).left left (front over s true c.if-is_step.true) number.is) in
    (r.0, r.1, (at, subst (λ z. BeginMarks g z false left r.0) (sym at) r.2))

pub unwrap-e-requires : goal.unwrap-e-requires
unwrap-e-requires over c =
    let s = (goal.at.unwrap-e-requires over c).After-unwrap-production in
    let g = c.args.g.now.core in
    let bits = (over.R.Codes.reading c.args.bits.now).left in
    let p = c.unwrap-production.result.0 in
    let left = (over.R.Codes.reading c.read_alternative.new.reader).left in
    let few = edges_held c.edges.result.now c.production-rule.result.now.core (production_at g p) c.edges.ensures c.production-rule.ensures.core in
    ok_from c.next_number-2.result
    (λ e. part_number g c.args.m.0 p false bits left c.requires.0 (part g c.args.m.0 bits c.requires.0 c.requires.1) (of_it over s) (front over s false c.if-is_step.false) (subst (λ n. HasNoNumber n left) few (c.next_number-2.ensures.malformed e)))

pub prove-unreachable-requires-2 : goal.prove-unreachable-requires-2
prove-unreachable-requires-2 over c =
    let s = (goal.at.prove-unreachable-requires-2 over c).After-unwrap-production in
    let g = c.args.g.now.core in
    let p = c.unwrap-production.result.0 in
    let n = c.unwrap-e.result in
    let few = edges_held c.edges.result.now c.production-rule.result.now.core (production_at g p) c.edges.ensures c.production-rule.ensures.core in
    let low : n < length c.edges.result.now = rw c.unwrap-e.ensures at c.next_number-2.ensures.below in
    omega (arith, edge_within g p n (of_it over s).0 (subst (λ z. n < z) few low), few_edges g c.start-formed.ensures.formed)

pub returns-clause-read : goal.returns-clause-read
returns-clause-read over c = λ marks h.
    let s = (goal.at.returns-clause-read over c).After-unwrap-production in
    let g = c.args.g.now.core in
    let bits = (over.R.Codes.reading c.args.bits.now).left in
    let p = c.unwrap-production.result.0 in
    let n = c.unwrap-e.result in
    let left = (over.R.Codes.reading c.next_number-2.new.self).left in
    let number = rw c.unwrap-e.ensures at c.next_number-2.ensures.read in
    part_read g c.args.m.0 p n false bits left marks (part g c.args.m.0 bits marks h) (of_it over s)
    (whole false (alternative_of g p) n bits (over.R.Codes.reading c.read_alternative.new.reader).left left (front over s false c.if-is_step.false) number.is)
