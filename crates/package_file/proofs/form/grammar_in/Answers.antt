use Rattle.std.proofs.lemmas.Result.{err_from_is_err_and}
use Rattle.serde_json.specs.View.{view}
use Rattle.package_file.specs.Unsaid.{SaysNoGrammar}
use Rattle.package_file.proofs.UnsaidParts.{unsaid_on, start_unsaid, modules_unsaid, productions_unsaid, deps_unsaid}
use Rattle.package_file.proofs.form.grammar_in.Goals as goal

pub returns-in_err-start-clause-refused : goal.returns-in_err-start-clause-refused
returns-in_err-start-clause-refused c =
    let d = view c.args.value.now in
    unsaid_on (SaysNoGrammar d) c.from_residual.result c.in_err-start.field-0.0 (err_from_is_err_and c.from_residual.result c.from_residual.ensures.1) (start_unsaid d c.in_err-start.field-0.0 c.in_err-start.ensures.refused)

pub returns-in_err-modules-clause-refused : goal.returns-in_err-modules-clause-refused
returns-in_err-modules-clause-refused c =
    let d = view c.args.value.now in
    unsaid_on (SaysNoGrammar d) c.from_residual-in_err-modules.result c.in_err-modules.field-0.0 (err_from_is_err_and c.from_residual-in_err-modules.result c.from_residual-in_err-modules.ensures.1) (modules_unsaid d c.in_err-modules.field-0.0 c.in_err-modules.ensures.refused)

pub returns-in_err-productions-clause-refused : goal.returns-in_err-productions-clause-refused
returns-in_err-productions-clause-refused c =
    let d = view c.args.value.now in
    unsaid_on (SaysNoGrammar d) c.from_residual-in_err-productions.result c.in_err-productions.field-0.0 (err_from_is_err_and c.from_residual-in_err-productions.result c.from_residual-in_err-productions.ensures.1) (productions_unsaid d c.in_err-productions.field-0.0 c.in_err-productions.ensures.refused)

pub returns-in_err-deps-clause-refused : goal.returns-in_err-deps-clause-refused
returns-in_err-deps-clause-refused c =
    let d = view c.args.value.now in
    unsaid_on (SaysNoGrammar d) c.from_residual-in_err-deps.result c.in_err-deps.field-0.0 (err_from_is_err_and c.from_residual-in_err-deps.result c.from_residual-in_err-deps.ensures.1) (deps_unsaid d c.in_err-deps.field-0.0 c.in_err-deps.ensures.refused)
