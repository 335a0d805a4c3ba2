use Rattle.std.proofs.Common.{◌∙◌, ◌++◌, ap, get_or, arith}
use Rattle.std.proofs.lemmas.List.{get_or_default}
use Rattle.wf_spec.proofs.Tables.{get_in}
use Rattle.wf_package.specs.Parts.{module_part}
use Rattle.wf_package.proofs.ByPlace.{place_more, place_all}
use Rattle.wf_package.proofs.modules.placed_modules.Goals as goal

pub placed_module-requires : goal.placed_module-requires
placed_module-requires c = c.requires.in_range (get_or c.args.numbers.now c.loop-k.k 0) (get_in c.loop-k.k c.args.numbers.now 0 c.loop-k-test.true)

pub loop-k-preserved : goal.loop-k-preserved
loop-k-preserved c =
    place_more (module_part c.args.g.now.core) c.args.numbers.now c.loop-k.k (get_or c.args.numbers.now c.loop-k.k 0) c.loop-k-test.true (get_or_default c.args.numbers.now c.loop-k.k 0 (get_or c.args.numbers.now c.loop-k.k 0) c.loop-k-test.true) c.loop-k.invariant
    (c.in_ok-push.ensures.items ∙ ap (λ l. c.loop-k.list.items ++ l) c.in_ok-module.ensures)

pub returns : goal.returns
returns c = c.loop-k.invariant ∙ place_all (module_part c.args.g.now.core) c.args.numbers.now c.loop-k.k (omega (arith, c.loop-k-test.false))
