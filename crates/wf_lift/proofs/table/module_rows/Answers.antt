use Rattle.std.proofs.Common.{◌*◌, ◌<◌, ◌≤◌, List, ℕ, length, replicate, sym, ap, ◌∙◌, subst, arith}
use Rattle.wf_model.specs.Grammar.{inputs_of, outputs_of}
use Rattle.wf_view.proofs.KnownViews.{held}
use Rattle.wf_spec.specs.Rows.{AreAdded}
use Rattle.words_model.specs.Lifting.{lift_pairs}
use Rattle.wf_lift.specs.RowPairs.{set_pairs}
use Rattle.wf_lift.specs.LiftedRows.{AreLiftedRows}
use Rattle.wf_lift.proofs.LiftedRows.{no_rows, rows_made}
use Rattle.wf_lift.proofs.Rooms.{few_in}
use Rattle.wf_lift.proofs.table.module_rows.Goals as goal

pub returns-then-expanded : goal.returns-then-expanded
returns-then-expanded c =
    let g = c.args.sight.grammar.now.core in
    let v = c.args.sight.view.now in
    subst (λ (l : List ℕ). AreLiftedRows g v.core c.args.automaton.now c.args.m.0 l) (sym c.new.ensures.items)
    (no_rows g v (held g v c.args.sight.held) c.args.automaton.now c.states-states.ensures.formed c.args.m.0 c.requires.in_range (sym c.expanded.ensures ∙ c.if-expanded.true))

pub lift_rows-requires-clause-inputs : goal.lift_rows-requires-clause-inputs
lift_rows-requires-clause-inputs c =
    let g = c.args.sight.grammar.now.core in
    let v = c.args.sight.view.now in
    let a = c.args.automaton.now in
    let some : 0 < a.states = (let s = c.states-states.ensures.formed.start in omega arith) in
    let few = few_in g c.output_count-outputs.ensures.formed a.states some c.requires.ports c.args.m.0 c.requires.in_range in
    let size = ap length c.shown_rows-shown.ensures ∙ ((held g v c.args.sight.held).rows c.args.m.0 c.requires.in_range (sym c.expanded.ensures ∙ c.if-expanded.false)).one_each in
    subst (λ n. n * c.states-states.result ≤ 64) (sym size) (subst (λ k. inputs_of g c.args.m.0 * k ≤ 64) (sym c.states-states.ensures.states) few.0)

pub lift_rows-requires-clause-few_inputs : goal.lift_rows-requires-clause-few_inputs
lift_rows-requires-clause-few_inputs c =
    let g = c.args.sight.grammar.now.core in
    let v = c.args.sight.view.now in
    let size = ap length c.shown_rows-shown.ensures ∙ ((held g v c.args.sight.held).rows c.args.m.0 c.requires.in_range (sym c.expanded.ensures ∙ c.if-expanded.false)).one_each in
    let count = c.input_count-inputs.ensures.count in
    let few = c.input_count-inputs.ensures.few in
    omega arith

pub lift_rows-requires-clause-outputs : goal.lift_rows-requires-clause-outputs
lift_rows-requires-clause-outputs c =
    let g = c.args.sight.grammar.now.core in
    let a = c.args.automaton.now in
    let some : 0 < a.states = (let s = c.states-states.ensures.formed.start in omega arith) in
    let few = few_in g c.output_count-outputs.ensures.formed a.states some c.requires.ports c.args.m.0 c.requires.in_range in
    subst (λ n. n * c.states-states.result ≤ 64) (sym c.output_count-outputs.ensures.count) (subst (λ k. outputs_of g c.args.m.0 * k ≤ 64) (sym c.states-states.ensures.states) few.1)

pub returns : goal.returns
returns c =
    let g = c.args.sight.grammar.now.core in
    let v = c.args.sight.view.now in
    rows_made g v (held g v c.args.sight.held) c.args.automaton.now c.states-states.ensures.formed c.args.m.0 c.requires.in_range
    c.shown_rows-shown.result.now c.in_ok-rows.rows.items c.output_count-outputs.result (sym c.expanded.ensures ∙ c.if-expanded.false) c.shown_rows-shown.ensures c.output_count-outputs.ensures.count
    (c.in_ok-rows.ensures.as_many ∙ ap (λ k. length c.shown_rows-shown.result.now * k) c.states-states.ensures.states)
    (subst (λ k. AreAdded (lift_pairs c.args.automaton.now c.args.m.0 (set_pairs c.shown_rows-shown.result.now c.output_count-outputs.result)) (replicate (length c.shown_rows-shown.result.now * k) 0) c.in_ok-rows.rows.items)
    c.states-states.ensures.states c.in_ok-rows.ensures.added)
