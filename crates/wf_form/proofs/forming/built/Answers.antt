use Rattle.std.proofs.Common.{◌∙◌, map, ap}
use Rattle.std.proofs.lemmas.Result.{err_from_is_err_and, IfOk-weaker, IfErr-weaker}
use Rattle.wf_form.specs.Forming.{module_of}
use Rattle.wf_form.specs.Rules.{AreKept}
use Rattle.wf_form.proofs.Faults.{first_fault, body_fault, link_fault, version_fault, names_read, form}
use Rattle.wf_form.proofs.forming.built.Goals as goal
use Rattle.wf_form.proofs.forming.built.Goals.{In_ok-grammar}

pub returns-in_err-names-clause-refused : goal.returns-in_err-names-clause-refused
returns-in_err-names-clause-refused c =
    let p = err_from_is_err_and c.from_residual.result c.from_residual.ensures.1 in
    rw (p.1, p.2) (first_fault c.args.parts.now _ c.in_err-names.ensures.refused)

pub returns-in_err-check_bodies-clause-refused : goal.returns-in_err-check_bodies-clause-refused
returns-in_err-check_bodies-clause-refused c =
    let p = err_from_is_err_and c.from_residual-in_err-check_bodies.result c.from_residual-in_err-check_bodies.ensures.1 in
    rw (p.1, p.2) (body_fault c.args.parts.now _ c.in_ok-names.ensures.kept c.in_err-check_bodies.ensures.refused)

pub wired-requires-clause-names : goal.wired-requires-clause-names
wired-requires-clause-names c =
    names_read c.args.parts.now c.deref.result.now c.in_ok-names.names (c.deref.ensures.value ∙ (c.in_ok-modules.ensures ∙ ap (map module_of) c.items.ensures)) c.in_ok-names.ensures.names

pub returns-in_err-wirings-clause-refused : goal.returns-in_err-wirings-clause-refused
returns-in_err-wirings-clause-refused c =
    let p = err_from_is_err_and c.from_residual-in_err-wirings.result c.from_residual-in_err-wirings.ensures.1 in
    rw (p.1, p.2) (link_fault c.args.parts.now _ c.in_ok-names.ensures.kept c.in_ok-check_bodies.ensures.kept c.in_err-wirings.ensures.refused)

pub assemble-requires-clause-names : goal.assemble-requires-clause-names
assemble-requires-clause-names c =
    names_read c.args.parts.now c.in_ok-modules.modules.items c.in_ok-names.names (c.in_ok-modules.ensures ∙ ap (map module_of) c.items.ensures) c.in_ok-names.ensures.names

the_kept : (c : In_ok-grammar) → AreKept c.args.parts.now
the_kept c = record { first = c.in_ok-names.ensures.kept; bodies = c.in_ok-check_bodies.ensures.kept; links = c.in_ok-wirings.ensures.kept }

pub returns-clause-accepted : goal.returns-clause-accepted
returns-clause-accepted c =
    let formed = form c.args.parts.now (the_kept (goal.at.returns-clause-accepted c).In_ok-grammar) in
    IfOk-weaker c.versioned.result _ _ (λ g h. (h.0, formed, h.1)) c.versioned.ensures.accepted

pub returns-clause-refused : goal.returns-clause-refused
returns-clause-refused c =
    IfErr-weaker c.versioned.result _ _ (λ f h. version_fault c.args.parts.now f (the_kept (goal.at.returns-clause-refused c).In_ok-grammar) h) c.versioned.ensures.refused
