use Rattle.std.proofs.Common.{[], ◌∷◌, ◌++◌, drop, get_or, sym, subst, arith}
use Rattle.wf_model.specs.Reach.{module_along}
use Rattle.wf_recur.specs.Cycles.{step_of}
use Rattle.decode_model.specs.Legs.{way_up, way_down, crossing}
use Rattle.decode_model.specs.Counts.{most_products}
use Rattle.wf_vlabel.specs.Seen.{matrices_of, full_in}
use Rattle.wf_decode.specs.HeldLegs.{held_steps, legs_of}
use Rattle.wf_decode.specs.Answers.{IsAnswerOfAddresses}
use Rattle.wf_decode.proofs.RowBits.{bit_within}
use Rattle.wf_decode.proofs.Ways.{way_left, ways_apart}
use Rattle.wf_decode.proofs.PartedAnswers.{across_answer, down_answer, up_answer}
use Rattle.wf_decode.proofs.DecisionCosts.{across_cost, down_cost, up_cost}
use Rattle.wf_decode.proofs.FewPorts.{few_ports}
use Rattle.wf_decode.proofs.decision.answers.answer.Goals as goal

pub across-requires-clause-ways : goal.across-requires-clause-ways
across-requires-clause-ways g c =
    let l = c.args.vl.now in
    let e = c.requires.ends in
    let p = c.in-Across.first_from in
    let q = c.in-Across.second_from in
    let x = c.part.new.first in
    let y = c.part.new.second in
    let s = step_of c.in-Across.first_step in
    let t = step_of c.in-Across.second_step in
    let w = ways_apart l c.cycles-label.ensures.label e.0 e.3 e.1 e.2 c.args.first.now x c.args.from.module.0 c.args.from.port.0 c.args.second.now y c.args.to.module.0 c.args.to.port.0 s t p q e.4 c.in-Across.ensures.parted in
    (e.0, e.3, w)

pub across-requires-clause-columns : goal.across-requires-clause-columns
across-requires-clause-columns g c = let e = c.requires.ends in let o = e.4.output in let f = (few_ports c.args.vl.now.grammar c.cycles-label.ensures.label.formed c.args.to.module.0).1 in record {
  within = c.in-Across.ensures.parted.second.within;
  output = omega arith;
  columns = λ some. (c.args.second.now, record { length_is = c.part.ensures.second_length; behind = c.in-Across.ensures.parted.second.kept }, c.requires.columns some);
}

pub across-requires-clause-rows : goal.across-requires-clause-rows
across-requires-clause-rows g c = record {
  within = c.in-Across.ensures.parted.first.within;
  rows = λ some. (c.args.first.now, record { length_is = c.part.ensures.first_length; behind = c.in-Across.ensures.parted.first.kept }, c.requires.rows some);
}

pub below-requires-clause-way : goal.below-requires-clause-way
below-requires-clause-way g c =
    let l = c.args.vl.now in
    let e = c.requires.ends in
    let j = c.in-Down.second_from in
    let y = c.part.new.second in
    let gone = held_steps l c.args.first.now in
    let w = (way_left l c.cycles-label.ensures.label e.0 e.3 e.2 gone c.args.to.module.0 j c.args.second.now y e.4.second c.in-Down.ensures.parted).0 in
    let k = module_along l.grammar l.grammar.start gone in
    (e.0, k, e.3, w)

pub below-requires-clause-input : goal.below-requires-clause-input
below-requires-clause-input g c = let e = c.requires.ends in let i = e.4.input in let f = (few_ports c.args.vl.now.grammar c.cycles-label.ensures.label.formed c.args.from.module.0).0 in omega arith

pub below-requires-clause-columns : goal.below-requires-clause-columns
below-requires-clause-columns g c = let e = c.requires.ends in let o = e.4.output in let f = (few_ports c.args.vl.now.grammar c.cycles-label.ensures.label.formed c.args.to.module.0).1 in record {
  within = c.in-Down.ensures.parted.within;
  output = omega arith;
  columns = λ some. (c.args.second.now, record { length_is = c.part.ensures.second_length; behind = c.in-Down.ensures.parted.kept }, c.requires.columns some);
}

pub above-requires-clause-way : goal.above-requires-clause-way
above-requires-clause-way g c =
    let l = c.args.vl.now in
    let e = c.requires.ends in
    let j = c.in-Up.first_from in
    let x = c.part.new.first in
    let gone = held_steps l c.args.second.now in
    let w = (way_left l c.cycles-label.ensures.label e.0 e.3 e.1 gone c.args.from.module.0 j c.args.first.now x e.4.first c.in-Up.ensures.parted).0 in
    let k = module_along l.grammar l.grammar.start gone in
    (e.0, k, e.3, w)

pub above-requires-clause-rows : goal.above-requires-clause-rows
above-requires-clause-rows g c = record {
  within = c.in-Up.ensures.parted.within;
  rows = λ some. (c.args.first.now, record { length_is = c.part.ensures.first_length; behind = c.in-Up.ensures.parted.kept }, c.requires.rows some);
}

pub above-requires-clause-output : goal.above-requires-clause-output
above-requires-clause-output g c = let e = c.requires.ends in let o = e.4.output in let f = (few_ports c.args.vl.now.grammar c.cycles-label.ensures.label.formed c.args.to.module.0).1 in omega arith

pub returns-in-Across-clause-answer : goal.returns-in-Across-clause-answer
returns-in-Across-clause-answer g c u a b of ends =
    let l = c.args.vl.now in
    let v = matrices_of l in
    let p = c.in-Across.first_from in
    let q = c.in-Across.second_from in
    let x = c.part.new.first in
    let y = c.part.new.second in
    let s = step_of c.in-Across.first_step in
    let t = step_of c.in-Across.second_step in
    let m = c.args.from.module.0 in
    let i = c.args.from.port.0 in
    let o = c.args.to.port.0 in
    let first = get_or (v.full m).rows i 0 in
    let r = across_answer l c.cycles-label.ensures.label u of a b c.args.first.now x m i c.args.second.now y c.args.to.module.0 o s t p q c.args.steps.now c.across.new.steps c.across.result ends c.in-Across.ensures.parted c.across.ensures in
    subst (IsAnswerOfAddresses l.grammar (full_in v) a b i o) (sym c.verdict_by.ensures) r

pub returns-in-Across-clause-cost : goal.returns-in-Across-clause-cost
returns-in-Across-clause-cost g c most few =
    let l = c.args.vl.now in
    let e = c.requires.ends in
    let v = matrices_of l in
    let p = c.in-Across.first_from in
    let q = c.in-Across.second_from in
    let x = c.part.new.first in
    let y = c.part.new.second in
    let s = step_of c.in-Across.first_step in
    let t = step_of c.in-Across.second_step in
    let k = across_cost l c.cycles-label.ensures.label e.0 e.3 most few e.1 e.2 c.args.first.now x c.args.from.module.0 c.args.from.port.0 c.args.second.now y c.args.to.module.0 c.args.to.port.0 s t p q e.4 c.in-Across.ensures.parted in
    let first = get_or (v.full c.args.from.module.0).rows c.args.from.port.0 0 in
    let o = c.args.to.port.0 in
    bit_within (crossing l.grammar v s (legs_of l (drop p x)) t (legs_of l (drop q y))) first c.args.steps.now c.across.new.steps o (most_products l.grammar most) c.across.result c.across.ensures k

pub returns-in-Down-clause-answer : goal.returns-in-Down-clause-answer
returns-in-Down-clause-answer g c u a b of ends =
    let l = c.args.vl.now in
    let v = matrices_of l in
    let j = c.in-Down.second_from in
    let y = c.part.new.second in
    let n = c.args.to.module.0 in
    let i = c.args.from.port.0 in
    let o = c.args.to.port.0 in
    let first = c.below.ensures.0 in
    let r = down_answer l c.cycles-label.ensures.label u of a b c.args.first.now c.args.from.module.0 i c.args.second.now y n o j first c.args.steps.now c.below.new.steps c.below.result ends c.in-Down.ensures.parted c.below.ensures.1 c.below.ensures.2 in
    subst (IsAnswerOfAddresses l.grammar (full_in v) a b i o) (sym c.verdict_by-in-Down.ensures) r

pub returns-in-Down-clause-cost : goal.returns-in-Down-clause-cost
returns-in-Down-clause-cost g c most few =
    let l = c.args.vl.now in
    let e = c.requires.ends in
    let v = matrices_of l in
    let j = c.in-Down.second_from in
    let y = c.part.new.second in
    let n = c.args.to.module.0 in
    let o = c.args.to.port.0 in
    let first = c.below.ensures.0 in
    let k = down_cost l c.cycles-label.ensures.label e.0 e.3 most few e.2 (held_steps l c.args.first.now) c.args.second.now y n j e.4.second c.in-Down.ensures.parted in
    bit_within (way_down v (legs_of l (drop j y)) ++ v.full n ∷ []) first c.args.steps.now c.below.new.steps o (most_products l.grammar most) c.below.result c.below.ensures.2 k

pub returns-in-Up-clause-answer : goal.returns-in-Up-clause-answer
returns-in-Up-clause-answer g c u a b of ends =
    let l = c.args.vl.now in
    let v = matrices_of l in
    let j = c.in-Up.first_from in
    let x = c.part.new.first in
    let m = c.args.from.module.0 in
    let i = c.args.from.port.0 in
    let o = c.args.to.port.0 in
    let first = get_or (v.full m).rows i 0 in
    let r = up_answer l c.cycles-label.ensures.label u of a b c.args.first.now x m i c.args.second.now c.args.to.module.0 o j c.args.steps.now c.above.new.steps c.above.result ends c.in-Up.ensures.parted c.above.ensures in
    subst (IsAnswerOfAddresses l.grammar (full_in v) a b i o) (sym c.verdict_by-in-Up.ensures) r

pub returns-in-Up-clause-cost : goal.returns-in-Up-clause-cost
returns-in-Up-clause-cost g c most few =
    let l = c.args.vl.now in
    let e = c.requires.ends in
    let v = matrices_of l in
    let j = c.in-Up.first_from in
    let x = c.part.new.first in
    let o = c.args.to.port.0 in
    let first = get_or (v.full c.args.from.module.0).rows c.args.from.port.0 0 in
    let k = up_cost l c.cycles-label.ensures.label e.0 e.3 most few e.1 (held_steps l c.args.second.now) c.args.first.now x c.args.from.module.0 j e.4.first c.in-Up.ensures.parted in
    bit_within (way_up v (legs_of l (drop j x))) first c.args.steps.now c.above.new.steps o (most_products l.grammar most) c.above.result c.above.ensures k
