use Rattle.std.proofs.lemmas.Result.{err_from_is_err_and}
use Rattle.wf_form.specs.Rules.{body_rules}
use Rattle.wf_spec.proofs.FirstFaults.{fault_of_rest}
use Rattle.wf_form.proofs.checks.bodies.check_bodies.Goals as goal

pub returns-in_err-check_positions-clause-refused : goal.returns-in_err-check_positions-clause-refused
returns-in_err-check_positions-clause-refused c =
    let p = err_from_is_err_and c.from_residual-in_err-check_positions.result c.from_residual-in_err-check_positions.ensures.1 in
    rw (p.1, p.2) (fault_of_rest 3 (body_rules c.args.parts.now) _ c.in_ok-check_known.ensures.kept c.in_err-check_positions.ensures.refused)

pub returns-clause-kept : goal.returns-clause-kept
returns-clause-kept c =
    let known = c.in_ok-check_known.ensures.kept in (known.0, (known.1.0, (known.1.1.0, c.in_ok-check_positions.ensures.kept)))
