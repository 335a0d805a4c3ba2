use Rattle.std.proofs.Common.{◌≡◌, false, get_or, sym, ◌∙◌, subst, rules, tests, true≢false}
use Rattle.std.proofs.lemmas.Iterator.{YieldsList-from_slice}
use Rattle.std.proofs.lemmas.Iterator.Search.{position_from_yields_List}
use Rattle.wf_model.specs.declared.parts.DepsPart.{DepsPart}
use Rattle.wf_model.specs.Lists.{IsIn}
use Rattle.wf_spec.proofs.Finding.{number_below}
use Rattle.wf_spec.specs.FirstFaults.{each, IsFirstFailing}
use Rattle.wf_view.specs.Rules.{number_in, IsOnShown}
use Rattle.wf_view.specs.Viewing.{is_expanded}
use Rattle.wf_view.specs.declared.fault.ViewFault.TheVariants.{DepsOnExpanded}
use Rattle.wf_spec.proofs.FirstFaults.{position_is_first}
use Rattle.wf_view.proofs.checks.shown.first_on_expanded.Goals as goal

pub returns : goal.returns
returns c =
    let g = c.args.g.now.core in
    let parts = c.args.parts.now in
    let flags = c.args.flags.now in
    let read = c.items.result.now in
    let flag : (d : DepsPart) → IsIn d read → get_or flags (number_in g d.«module») false ≡ is_expanded g parts (number_in g d.«module») =
    λ d i. c.requires.flags.each (number_in g d.«module») (number_below g.modules d.«module» (c.requires.known d (subst (IsIn d) c.items.ensures i))) in
    subst (λ deps. IsFirstFailing (each deps (IsOnShown g parts) DepsOnExpanded) c.position.result) c.items.ensures
    (position_is_first (λ (d : DepsPart). get_or flags (number_in g d.«module») false) (IsOnShown g parts) DepsOnExpanded read c.position.result (λ d i e. sym (flag d i) ∙ e) (λ d i e h. true≢false (sym e ∙ (flag d i ∙ h)))
    (position_from_yields_List _ _ _ _ c.position.ensures.ran (YieldsList-from_slice read cc) (λ x b q k. search (rules, tests))))
