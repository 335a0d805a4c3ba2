use Rattle.std.proofs.Common.{◌≤◌, ◌∙◌, IfOk, ap, length, subst, sym}
use Rattle.wf_model.specs.Grammar.{head_of}
use Rattle.wf_safe.specs.Choosing.{is_seen_expanded}
use Rattle.wf_package.specs.Parts.{ArePlaces}
use Rattle.wf_package.proofs.ShownFound.{length-flags}
use Rattle.wf_package.proofs.shown.open_productions.Goals as goal

pub flagged-requires : goal.flagged-requires
flagged-requires c =
    let all = ap length (c.deref.ensures.value ∙ c.in_ok-flags.ensures)
    ∙ length-flags (λ p. is_seen_expanded c.args.v.view.now (head_of c.args.v.grammar.now.core p)) (length c.args.v.grammar.now.core.productions) in
    subst (λ n. n ≤ 1024) (sym all) c.start-formed.ensures.formed.few_productions

pub returns : goal.returns
returns c = subst (λ f. IfOk c.flagged.result (ArePlaces f)) (c.deref.ensures.value ∙ c.in_ok-flags.ensures) c.flagged.ensures
