use Rattle.std.proofs.Common.{◌≡◌, ◌<◌, List, ℕ, length, get_or, sym, ◌∙◌, subst, arith}
use Rattle.wf_spec.specs.Rows.{AreAdded}
use Rattle.words_model.specs.Lifting.{lift_pairs}
use Rattle.wf_lift.specs.RowPairs.{row_pairs, set_pairs_below}
use Rattle.wf_lift.proofs.LiftedPairs.{lifted_both}
use Rattle.wf_lift.proofs.Rooms.{states_below}
use Rattle.wf_lift.proofs.SetPairs.{rows_more}
use Rattle.wf_lift.proofs.pairs.add_rows.Goals as goal

pub add_row-requires-clause-input : goal.add_row-requires-clause-input
add_row-requires-clause-input c =
    let some : 0 < c.args.states = (let s = c.states-formed.ensures.formed.start in let e = c.requires.same in omega arith) in
    let b = states_below c.args.states (length c.args.shown.now) c.loop-i.i some c.loop-i-test.true in
    let n = c.loop-i.invariant.as_many in
    let r = c.requires.room in
    omega arith

pub loop-i-preserved : goal.loop-i-preserved
loop-i-preserved c =
    let a = c.args.automaton.now in
    let shown = c.args.shown.now in
    record {
      as_many = c.add_row.ensures.as_many ∙ c.loop-i.invariant.as_many;
      added = subst (λ (l : List (ℕ × ℕ)). AreAdded (lift_pairs a c.args.m.0 l) c.args.rows.now c.add_row.new.rows) (sym (rows_more shown c.args.outputs c.loop-i.i))
          (lifted_both a c.args.m.0 (set_pairs_below shown c.args.outputs c.loop-i.i) (row_pairs c.loop-i.i (get_or shown c.loop-i.i 0) c.args.outputs) c.args.rows.now c.loop-i.rows c.add_row.new.rows
          c.loop-i.invariant.added c.add_row.ensures.added);
    }

pub returns-clause-added : goal.returns-clause-added
returns-clause-added c =
    let end : c.loop-i.i ≡ length c.args.shown.now = (let t = c.loop-i-test.false in let e = c.loop-i.auto.i-end in omega arith) in
    subst (λ n. AreAdded (lift_pairs c.args.automaton.now c.args.m.0 (set_pairs_below c.args.shown.now c.args.outputs n)) c.args.rows.now c.loop-i.rows) end c.loop-i.invariant.added
