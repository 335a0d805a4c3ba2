use Rattle.std.proofs.Common.{arith}
use Rattle.std.proofs.lemmas.Grind.{same_number_lists}
use Rattle.wf_safe.proofs.LowestBit.{lowest_of, first_differing}
use Rattle.wf_safe.proofs.safety.difference.first_difference.Goals as goal

pub has_column-requires : goal.has_column-requires
has_column-requires c = (lowest_of _ _ (c.type_inv.one c.loop-i.i).fits (c.type_inv.other c.loop-i.i).fits c.if-differing-ne0.true).below

pub returns-then-differing-ne0 : goal.returns-then-differing-ne0
returns-then-differing-ne0 c =
    first_differing c.args.one.now c.args.other.now c.loop-i.i _ c.has_column.result c.loop-i-test.true c.loop-i.invariant
    (lowest_of _ _ (c.type_inv.one c.loop-i.i).fits (c.type_inv.other c.loop-i.i).fits c.if-differing-ne0.true) c.has_column.ensures

pub returns : goal.returns
returns c = same_number_lists c.args.one.now c.args.other.now c.requires.same (λ k l. c.loop-i.invariant k (omega arith))
