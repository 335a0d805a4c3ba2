use Rattle.std.proofs.lemmas.Result.{err_from_is_err_and}
use Rattle.wf_form.specs.Rules.{first_rules}
use Rattle.wf_spec.proofs.FirstFaults.{fault_of_rest}
use Rattle.wf_form.proofs.Faults.{told_of_start}
use Rattle.wf_form.proofs.checks.modules.check_modules.Goals as goal

pub returns-in_err-check_counts-clause-refused : goal.returns-in_err-check_counts-clause-refused
returns-in_err-check_counts-clause-refused c =
    let p = err_from_is_err_and c.from_residual-in_err-check_counts.result c.from_residual-in_err-check_counts.ensures.1 in
    rw (p.1, p.2) (fault_of_rest 3 (first_rules c.args.parts.now) _ c.in_ok-names.ensures.kept c.in_err-check_counts.ensures.refused)

pub returns-clause-kept : goal.returns-clause-kept
returns-clause-kept c =
    let names = c.in_ok-names.ensures.kept in (names.0, (names.1.0, (names.1.1.0, c.in_ok-check_counts.ensures.kept)))

pub returns-in_err-names-clause-refused : goal.returns-in_err-names-clause-refused
returns-in_err-names-clause-refused c =
    let p = err_from_is_err_and c.from_residual.result c.from_residual.ensures.1 in
    rw (p.1, p.2) (told_of_start 3 (first_rules c.args.parts.now) _ c.in_err-names.ensures.refused)
