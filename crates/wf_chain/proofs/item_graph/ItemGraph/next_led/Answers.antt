use Rattle.std.proofs.Common.{◌∙◌, ◌<◌, refl, sym, subst, arith, length}
use Rattle.wf_chain.proofs.ItemGraphs.{is_within}
use Rattle.wf_chain.proofs.MadeSteps.{there_below, led_nothing, led_passed, led_found}
use Rattle.wf_chain.proofs.item_graph.ItemGraph.next_led.Goals as goal

pub returns-then-has_pair : goal.returns-then-has_pair
returns-then-has_pair c =
    let g = c.args.self.now in
    let w = is_within (length g.run.now.run.instances) g.consumed.now g.produced.now g.first.now g.next.now g.within in
    let at = c.loop-output.at in
    let q = c.in-Some.output in
    let is = sym c.output_of.ensures ∙ c.in-Some.is in
    c.loop-output.invariant ∙ led_found g.run.now g.produced.now c.args.input at _ q is (w.made.nexts at q (omega arith) is) (sym c.has_pair.ensures ∙ c.if-has_pair.true)

pub loop-output-smaller : goal.loop-output-smaller
loop-output-smaller c =
    let g = c.args.self.now in
    let w = is_within (length g.run.now.run.instances) g.consumed.now g.produced.now g.first.now g.next.now g.within in
    let at = c.loop-output.at in
    let is = sym c.output_of.ensures ∙ c.in-Some.is in
    let later = (w.made.nexts at c.in-Some.output (omega arith) is).behind in
    let low = there_below g.produced.now at c.in-Some.output is in
    omega (arith, later, low)

pub loop-output-preserved : goal.loop-output-preserved
loop-output-preserved c =
    let g = c.args.self.now in
    let w = is_within (length g.run.now.run.instances) g.consumed.now g.produced.now g.first.now g.next.now g.within in
    let at = c.loop-output.at in
    let q = c.in-Some.output in
    let is = sym c.output_of.ensures ∙ c.in-Some.is in
    c.loop-output.invariant ∙ led_passed g.run.now g.produced.now c.args.input at _ q is (w.made.nexts at q (omega arith) is) (sym c.has_pair.ensures ∙ c.if-has_pair.false)

pub returns : goal.returns
returns c =
    let g = c.args.self.now in
    c.loop-output.invariant ∙ led_nothing g.run.now g.produced.now c.args.input c.loop-output.at (sym c.output_of.ensures ∙ c.in_default.is)

pub bounds-self-at : goal.bounds-self-at
bounds-self-at c =
    let g = c.args.self.now in
    let w = is_within (length g.run.now.run.instances) g.consumed.now g.produced.now g.first.now g.next.now g.within in
    let low = there_below g.produced.now c.loop-output.at c.in-Some.output (sym c.output_of.ensures ∙ c.in-Some.is) in
    subst (λ n. c.loop-output.at < n) (sym w.made.each) low

pub has_pair-requires : goal.has_pair-requires
has_pair-requires c =
    let g = c.args.self.now in
    let w = is_within (length g.run.now.run.instances) g.consumed.now g.produced.now g.first.now g.next.now g.within in
    record { there = c.requires; column = w.outputs c.loop-output.at c.in-Some.output (sym c.output_of.ensures ∙ c.in-Some.is) }

pub loop-output-init : goal.loop-output-init
loop-output-init c = refl
