use Rattle.std.proofs.Common.{subst, sym, inl, inr, refl}
use Rattle.std.proofs.lemmas.Result.{err_from_is_err_and}
use Rattle.wf_form.specs.Rules.{link_rules_of}
use Rattle.wf_form.specs.Wiring.{AreWiringsOf}
use Rattle.wf_form.proofs.Faults.{told_of_start}
use Rattle.wf_form.proofs.LinkRules.{all_within, refused_by_wirings, refused_by_deps, all_kept}
use Rattle.wf_form.proofs.links.wired_from.Goals as goal
use Rattle.wf_form.proofs.links.wired_from.Goals.{After-deref}

wirings_of : (c : After-deref) → AreWiringsOf c.args.modules.now c.args.productions.now c.deref.result.now
wirings_of c = subst (AreWiringsOf c.args.modules.now c.args.productions.now) (sym c.deref.ensures.value) c.in_ok-wirings.ensures.wirings

pub check_wirings-requires-clause-within : goal.check_wirings-requires-clause-within
check_wirings-requires-clause-within c =
    all_within c.args.names.now c.args.modules.now c.args.productions.now c.args.deps.now c.requires c.deref.result.now (wirings_of (goal.at.check_wirings-requires-clause-within c).After-deref) c.in_ok-wirings.ensures.kept

pub returns-in_err-check_wirings-clause-refused : goal.returns-in_err-check_wirings-clause-refused
returns-in_err-check_wirings-clause-refused c =
    let p = err_from_is_err_and c.from_residual-in_err-check_wirings.result c.from_residual-in_err-check_wirings.ensures.1 in
    rw (p.1, p.2)
    (refused_by_wirings c.args.names.now c.args.modules.now c.args.productions.now c.args.deps.now c.requires c.deref.result.now (wirings_of (goal.at.returns-in_err-check_wirings-clause-refused c).After-deref) c.in_ok-wirings.ensures.kept
    c.in_default.ensures _ c.in_err-check_wirings.ensures.refused)

pub returns-in-Some-2-clause-refused : goal.returns-in-Some-2-clause-refused
returns-in-Some-2-clause-refused c =
    inr (refused_by_deps c.args.names.now c.args.modules.now c.args.productions.now c.args.deps.now c.requires c.deref.result.now (wirings_of (goal.at.returns-in-Some-2-clause-refused c).After-deref) c.in_ok-wirings.ensures.kept
    c.in_default.ensures c.in_ok-check_wirings.ensures.kept c.in-Some-2.k (rw c.in-Some-2.is at c.in_ok-k.ensures))

pub returns-clause-kept : goal.returns-clause-kept
returns-clause-kept c =
    all_kept c.args.names.now c.args.modules.now c.args.productions.now c.args.deps.now c.requires c.deref.result.now (wirings_of (goal.at.returns-clause-kept c).After-deref) c.in_ok-wirings.ensures.kept
    c.in_default.ensures c.in_ok-check_wirings.ensures.kept (rw c.in_default-2.is at c.in_ok-k.ensures)

pub returns-clause-wirings : goal.returns-clause-wirings
returns-clause-wirings c = c.in_ok-wirings.ensures.wirings

pub returns-in_err-wirings-clause-refused : goal.returns-in_err-wirings-clause-refused
returns-in_err-wirings-clause-refused c =
    let p = err_from_is_err_and c.from_residual.result c.from_residual.ensures.1 in
    rw (p.1, p.2) (told_of_start 1 (link_rules_of c.args.modules.now c.args.productions.now c.args.deps.now) _ c.in_err-wirings.ensures.refused)

pub returns-in-Some-clause-refused : goal.returns-in-Some-clause-refused
returns-in-Some-clause-refused c = inr (inr (c.in_ok-wirings.ensures.kept, inl (c.in-Some.k, c.in-Some.ensures, refl)))
