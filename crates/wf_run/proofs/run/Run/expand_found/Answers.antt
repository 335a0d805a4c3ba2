use Rattle.std.proofs.Common.{Some, ap, sym, subst, ◌∙◌, inl, inr, ⊎_elim}
use Rattle.run_faults.specs.NewNames.{twice_fault}
use Rattle.wf_run.specs.Runs.{GoesOn}
use Rattle.wf_run.proofs.OpenedNodes.{opened_goes_on}
use Rattle.run_faults.proofs.NewNames.{none_twice, one_twice}
use Rattle.wf_run.proofs.Extending.{next_run}
use Rattle.wf_run.proofs.run.Run.expand_found.Goals as goal

pub returns-in-Err-clause-refused : goal.returns-in-Err-clause-refused
returns-in-Err-clause-refused c =
    let e = c.in_ok-e.ensures in
    ⊎_elim (λ none. inl none)
    (λ twice. inr (λ events run. e.left events run ∙ (ap (twice_fault c.args.self.now.names) (sym e.names) ∙ (one_twice c.args.self.now.names c.in_ok-e.e.names.now twice.1 ∙ ap Some (sym twice.0)))))
    c.in-Err.ensures.refused

pub returns-clause-taken : goal.returns-clause-taken
returns-clause-taken c events run =
    let e = c.in_ok-e.ensures in
    let fresh = ap (twice_fault c.args.self.now.names) (sym e.names) ∙ none_twice c.args.self.now.names c.in_ok-e.e.names.now c.in_default.ensures.fresh in
    next_run c.args.self.now _ events c.args.instance.now c.in_ok-e.e.instance.0 c.args.production c.in_ok-e.e.production.0 c.args.names.now c.in_ok-e.e.names.now c.in_default.ensures.formed run e.instance (e.left events run ∙ fresh) e.production e.names c.in_default.ensures.opened

pub returns-clause-extends : goal.returns-clause-extends
returns-clause-extends c events run =
    let e = c.in_ok-e.ensures in
    e.left events run ∙ (ap (twice_fault c.args.self.now.names) (sym e.names) ∙ none_twice c.args.self.now.names c.in_ok-e.e.names.now c.in_default.ensures.fresh)

pub returns-clause-goes_on : goal.returns-clause-goes_on
returns-clause-goes_on c = let e = c.in_ok-e.e in subst (GoesOn c.args.self.now) (sym c.in_default.ensures.opened) (opened_goes_on c.args.self.now e.instance.0 e.production.0 e.names.now)
