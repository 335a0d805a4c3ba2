use Rattle.std.proofs.Common.{◌∙◌, get_or, arith}
use Rattle.std.proofs.lemmas.List.{get_or_default}
use Rattle.wf_spec.proofs.Tables.{get_in}
use Rattle.wf_package.specs.Parts.{loop_part}
use Rattle.wf_package.proofs.ByPlace.{place_more, place_all}
use Rattle.wf_package.proofs.loops.placed_loops.Goals as goal

pub add_loop-requires-clause-in_range : goal.add_loop-requires-clause-in_range
add_loop-requires-clause-in_range c = c.requires.in_range (get_or c.args.numbers.now c.loop-k.k 0) (get_in c.loop-k.k c.args.numbers.now 0 c.loop-k-test.true)

pub loop-k-preserved : goal.loop-k-preserved
loop-k-preserved c =
    place_more (loop_part c.args.g.grammar.now.core c.args.view.now.core c.args.places.now) c.args.numbers.now c.loop-k.k (get_or c.args.numbers.now c.loop-k.k 0) c.loop-k-test.true (get_or_default c.args.numbers.now c.loop-k.k 0 (get_or c.args.numbers.now c.loop-k.k 0) c.loop-k-test.true) c.loop-k.invariant c.in_ok-add_loop.ensures

pub returns : goal.returns
returns c = c.loop-k.invariant ∙ place_all (loop_part c.args.g.grammar.now.core c.args.view.now.core c.args.places.now) c.args.numbers.now c.loop-k.k (omega (arith, c.loop-k-test.false))
