use Rattle.std.proofs.Common.{◌+◌, ◌-◌, ◌/◌, ◌^◌, ◌<◌, sym, subst, arith, rules}
use Rattle.std.proofs.lemmas.Nat.{pow_pos, mod_below}
use Rattle.bit_pack.proofs.Bytes.{low_masked}
use Rattle.bit_pack.proofs.Filling.{nothing_written, free_behind, digits_more}
use Rattle.bit_pack.proofs.put.put_number.Goals as goal

pub loop-left-init : goal.loop-left-init
loop-left-init c = record { few = omega arith; place = omega arith; done = nothing_written _ _ _ _ c.requires.free (omega arith) }

pub put_part-requires-clause-free : goal.put_part-requires-clause-free
put_part-requires-clause-free c = free_behind _ _ _ _ _ _ c.loop-left.invariant.done (omega arith)

pub put_part-requires-clause-fits : goal.put_part-requires-clause-fits
put_part-requires-clause-fits c =
    let n = c.args.number / 2 ^ (c.loop-left.left - c.min-part.result) in
    let p = c.min-part.result in
    subst (λ z. z < 2 ^ p) (sym (low_masked n p (omega arith) (omega arith))) (mod_below n (2 ^ p) (pow_pos p))

pub overflow_add-at : goal.overflow_add-at
overflow_add-at c = let few : c.loop-left.at + c.min-part.result < 2 ^ 64 = omega arith in search (rules, few)

pub loop-left-preserved : goal.loop-left-preserved
loop-left-preserved c = record {
  few = omega arith;
  place = omega arith;
  done = digits_more _ _ _ _ _ _ _ _ _ _ _ c.loop-left.invariant.done (omega arith) c.put_part.ensures (low_masked _ _ (omega arith) (omega arith)) (omega arith) (omega arith);
}
