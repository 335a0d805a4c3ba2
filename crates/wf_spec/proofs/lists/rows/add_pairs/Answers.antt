use Rattle.std.proofs.Common.{◌<◌, get_or, subst, sym}
use Rattle.wf_spec.specs.declared.given.Pair.{Pair}
use Rattle.wf_spec.proofs.Tables.{get_in}
use Rattle.wf_spec.proofs.lists.rows.add_pairs.Goals as goal

pub add_pair-requires-clause-input : goal.add_pair-requires-clause-input
add_pair-requires-clause-input c =
    let e : Pair = record { input = record { 0 = 0 }; output = record { 0 = 0 } } in
    subst (λ n. (get_or c.args.pairs.now c.loop-pair.pair-index e).input.0 < n) (sym c.loop-pair.auto.rows)
    (c.requires.inputs (get_or c.args.pairs.now c.loop-pair.pair-index e) (get_in c.loop-pair.pair-index c.args.pairs.now e c.loop-pair-test.true))

pub add_pair-requires-clause-output : goal.add_pair-requires-clause-output
add_pair-requires-clause-output c =
    let e : Pair = record { input = record { 0 = 0 }; output = record { 0 = 0 } } in
    c.requires.outputs (get_or c.args.pairs.now c.loop-pair.pair-index e) (get_in c.loop-pair.pair-index c.args.pairs.now e c.loop-pair-test.true)
