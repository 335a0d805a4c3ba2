use Rattle.std.proofs.Common.{◌∙◌, map, ap, subst}
use Rattle.std.proofs.lemmas.Result.{err_from_is_err_and}
use Rattle.wf_model.specs.Lists.{IsIn}
use Rattle.wf_spec.specs.FirstFaults.{HoldsThroughout}
use Rattle.wf_automaton.specs.Rules.{move_of, name_rule, new_moves}
use Rattle.wf_automaton.proofs.Ruled.{accept_below, all_bound, tables_made, states_refused, names_refused, moves_refused, ports_refused}
use Rattle.wf_automaton.proofs.build.tables_of.Goals as goal

pub returns-in_err-check_states-clause-refused : goal.returns-in_err-check_states-clause-refused
returns-in_err-check_states-clause-refused c =
    let e = err_from_is_err_and c.from_residual.result c.from_residual.ensures.1 in
    rw (e.1, e.2) (states_refused c.args.g.now.core c.args.parts.now _ c.in_err-check_states.ensures.refused)

pub returns-in_err-moves-clause-refused : goal.returns-in_err-moves-clause-refused
returns-in_err-moves-clause-refused c =
    let e = err_from_is_err_and c.from_residual-in_err-moves.result c.from_residual-in_err-moves.ensures.1 in
    rw (e.1, e.2)
    (names_refused c.args.g.now.core c.args.parts.now _ c.in_ok-check_states.ensures.kept c.items.result.now c.items.ensures c.in_err-moves.ensures.refused)

pub table_of-requires-clause-below : goal.table_of-requires-clause-below
table_of-requires-clause-below c =
    let g = c.args.g.now.core in
    all_bound g c.args.parts.now c.in_ok-check_states.ensures.kept (subst (λ vs. HoldsThroughout (name_rule g vs)) c.items.ensures c.in_ok-moves.ensures.known) c.in_ok-moves.moves.items
    (c.in_ok-moves.ensures.moves ∙ ap (map (move_of g)) c.items.ensures) c.modules.result.now c.modules.ensures.modules c.deref.result.now c.deref.ensures.value

pub returns-in_err-table-clause-refused : goal.returns-in_err-table-clause-refused
returns-in_err-table-clause-refused c =
    let e = err_from_is_err_and c.from_residual-in_err-table.result c.from_residual-in_err-table.ensures.1 in
    let g = c.args.g.now.core in
    rw (e.1, e.2)
    (moves_refused g c.args.parts.now _ c.in_ok-check_states.ensures.kept
    (subst (λ vs. HoldsThroughout (name_rule g vs)) c.items.ensures c.in_ok-moves.ensures.known)
    c.deref.result.now (c.deref.ensures.value ∙ (c.in_ok-moves.ensures.moves ∙ ap (map (move_of g)) c.items.ensures)) c.in_err-table.ensures.refused)

pub returns-in_err-check_ports-clause-refused : goal.returns-in_err-check_ports-clause-refused
returns-in_err-check_ports-clause-refused c =
    let e = err_from_is_err_and c.from_residual-in_err-check_ports.result c.from_residual-in_err-check_ports.ensures.1 in
    let g = c.args.g.now.core in
    rw (e.1, e.2)
    (ports_refused g c.args.parts.now _ c.in_ok-check_states.ensures.kept
    (subst (λ vs. HoldsThroughout (name_rule g vs)) c.items.ensures c.in_ok-moves.ensures.known)
    (subst (λ vs. HoldsThroughout (new_moves vs)) (c.deref.ensures.value ∙ (c.in_ok-moves.ensures.moves ∙ ap (map (move_of g)) c.items.ensures)) c.in_ok-table.ensures.new)
    c.in_err-check_ports.ensures.refused)

pub flags_of-requires : goal.flags_of-requires
flags_of-requires c = λ s h. accept_below c.args.g.now.core c.args.parts.now c.in_ok-check_states.ensures.kept s (subst (IsIn s) c.items-2.ensures h)

pub returns-clause-tables : goal.returns-clause-tables
returns-clause-tables c =
    let g = c.args.g.now.core in
    tables_made g c.args.parts.now c.in_ok-check_states.ensures.kept (subst (λ vs. HoldsThroughout (name_rule g vs)) c.items.ensures c.in_ok-moves.ensures.known) c.in_ok-moves.moves.items
    (c.in_ok-moves.ensures.moves ∙ ap (map (move_of g)) c.items.ensures) c.items-2.result.now c.items-2.ensures c.deref.result.now c.deref.ensures.value c.in_ok-flags.flags.items c.in_ok-table.table.items
    c.in_ok-flags.ensures c.in_ok-table.ensures.moves
