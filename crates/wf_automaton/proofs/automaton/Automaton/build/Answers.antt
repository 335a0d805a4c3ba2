use Rattle.std.proofs.lemmas.Result.{err_from_is_err_and}
use Rattle.wf_automaton.proofs.Ruled.{made_tables, made_tells, made_fits, shape_refused, rules_refused}
use Rattle.wf_automaton.proofs.automaton.Automaton.build.Goals as goal

pub returns-in_err-parts-clause-refused : goal.returns-in_err-parts-clause-refused
returns-in_err-parts-clause-refused c =
    let e = err_from_is_err_and c.from_residual.result c.from_residual.ensures.1 in
    rw (e.1, e.2) (shape_refused c.args.g.now.core c.args.bytes.now _ c.in_err-parts.ensures.refused)

pub returns-in_err-tables-clause-refused : goal.returns-in_err-tables-clause-refused
returns-in_err-tables-clause-refused c =
    let e = err_from_is_err_and c.from_residual-in_err-tables.result c.from_residual-in_err-tables.ensures.1 in
    rw (e.1, e.2) (rules_refused c.args.g.now.core c.args.bytes.now _ c.in_ok-parts.parts c.in_ok-parts.ensures.ok c.in_err-tables.ensures.refused)

pub of_tables-requires : goal.of_tables-requires
of_tables-requires c = made_tables c.args.g.now.core c.in_ok-parts.parts c.in_ok-tables.ensures.kept c.in_ok-tables.tables.moves.items c.in_ok-tables.ensures.moves c.in_ok-tables.tables.flags.items c.in_ok-tables.tables.table.items c.in_ok-tables.ensures.tables

pub returns-clause-accepted : goal.returns-clause-accepted
returns-clause-accepted c =
    made_tells c.args.g.now.core c.in_ok-parts.parts c.in_ok-tables.ensures.kept c.in_ok-tables.tables.moves.items c.in_ok-tables.ensures.moves c.args.bytes.now c.in_ok-parts.ensures.ok c.of_tables.result c.of_tables.ensures

pub returns-clause-fits : goal.returns-clause-fits
returns-clause-fits c = made_fits c.args.g.now.core c.in_ok-parts.parts c.in_ok-tables.ensures.kept c.in_ok-tables.tables.moves.items c.in_ok-tables.ensures.moves c.of_tables.result c.of_tables.ensures
