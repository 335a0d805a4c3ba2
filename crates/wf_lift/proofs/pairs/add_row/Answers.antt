use Rattle.std.proofs.Common.{◌<◌, List, ℕ, sym, ◌∙◌, subst, arith}
use Rattle.wf_spec.specs.Rows.{AreAdded}
use Rattle.words_model.specs.Lifting.{lift_pairs}
use Rattle.wf_lift.specs.RowPairs.{bit_pair, row_pairs}
use Rattle.wf_lift.proofs.LiftedPairs.{lifted_both}
use Rattle.wf_lift.proofs.Rooms.{below_has_room}
use Rattle.wf_lift.proofs.SetPairs.{row_more}
use Rattle.wf_lift.proofs.pairs.add_row.Goals as goal

pub add_if_set-requires-clause-output : goal.add_if_set-requires-clause-output
add_if_set-requires-clause-output c =
    let some : 0 < c.args.states = (let s = c.states-formed.ensures.formed.start in let e = c.requires.same in omega arith) in
    below_has_room c.args.states c.args.outputs c.loop-o.o some c.requires.outputs c.loop-o-test.true

pub loop-o-preserved : goal.loop-o-preserved
loop-o-preserved c =
    let a = c.args.automaton.now in
    record {
      as_many = c.add_if_set.ensures.as_many ∙ c.loop-o.invariant.as_many;
      added = subst (λ (l : List (ℕ × ℕ)). AreAdded (lift_pairs a c.args.m.0 l) c.args.rows.now c.add_if_set.new.rows) (sym (row_more c.args.input c.args.row c.loop-o.o))
          (lifted_both a c.args.m.0 (row_pairs c.args.input c.args.row c.loop-o.o) (bit_pair c.args.input c.args.row c.loop-o.o) c.args.rows.now c.loop-o.rows c.add_if_set.new.rows
          c.loop-o.invariant.added c.add_if_set.ensures.added);
    }
