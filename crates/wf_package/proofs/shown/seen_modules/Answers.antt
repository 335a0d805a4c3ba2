use Rattle.std.proofs.Common.{◌≤◌, ◌∙◌, IfOk, false, ap, length, get_or, subst, sym}
use Rattle.wf_package.specs.Parts.{ArePlaces}
use Rattle.wf_package.proofs.ShownFound.{length-flags}
use Rattle.wf_package.proofs.shown.seen_modules.Goals as goal

pub flagged-requires : goal.flagged-requires
flagged-requires c =
    let all = ap length (c.deref.ensures.value ∙ c.in_ok-flags.ensures) ∙ length-flags (λ m. get_or c.args.v.view.now.seen m false) (length c.args.v.grammar.now.core.modules) in
    subst (λ n. n ≤ 1024) (sym all) c.start-formed.ensures.formed.few_modules

pub returns : goal.returns
returns c = subst (λ f. IfOk c.flagged.result (ArePlaces f)) (c.deref.ensures.value ∙ c.in_ok-flags.ensures) c.flagged.ensures
