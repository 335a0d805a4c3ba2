use Rattle.std.proofs.lemmas.Result.{err_from_is_err_and}
use Rattle.serde_json.specs.View.{view}
use Rattle.package_file.specs.Unsaid.{SaysNoPackage}
use Rattle.package_file.proofs.UnsaidParts.{unsaid_on, grammar_unsaid, loops_unsaid}
use Rattle.package_file.proofs.form.package_in.Goals as goal

pub returns-in_err-grammar-clause-refused : goal.returns-in_err-grammar-clause-refused
returns-in_err-grammar-clause-refused c =
    let d = view c.args.value.now in
    unsaid_on (SaysNoPackage d) c.from_residual-in_err-grammar.result c.in_err-grammar.field-0.0 (err_from_is_err_and c.from_residual-in_err-grammar.result c.from_residual-in_err-grammar.ensures.1) (grammar_unsaid d c.in_err-grammar.field-0.0 c.in_err-grammar.ensures.refused)

pub returns-in_err-loops-clause-refused : goal.returns-in_err-loops-clause-refused
returns-in_err-loops-clause-refused c =
    let d = view c.args.value.now in
    unsaid_on (SaysNoPackage d) c.from_residual-in_err-loops.result c.in_err-loops.field-0.0 (err_from_is_err_and c.from_residual-in_err-loops.result c.from_residual-in_err-loops.ensures.1) (loops_unsaid d c.in_err-loops.field-0.0 c.in_err-loops.ensures.refused)
