use Rattle.std.proofs.Common.{◌≡◌, ◌⊎◌, ℕ, List, None, inl, refl, ap, ◌∙◌, subst}
use Rattle.std.specs.Prelude.{codes}
use Rattle.std.proofs.lemmas.Result.{IfOk-weaker, IfErr-weaker}
use Rattle.wf_model.specs.Meaning.{pairs_of}
use Rattle.wf_spec.specs.Held.{HeldGrammar}
use Rattle.wf_accept.specs.Accepted.{AcceptedValue}
use Rattle.compare_model.specs.Comparison.{IsCompared}
use Rattle.wf_compare.specs.FaultText.{compare_text}
use Rattle.wf_compare.specs.ComparedText.{compared_text}
use Rattle.wf_message.specs.Endings.{end_of, Refused, NoMemory}
use Rattle.cmd_share.specs.Told.{told}
use Rattle.cmd_share.proofs.ComparedTexts.{refused_two}
use Rattle.cmd_share.proofs.compare.comparison.Goals as goal

pub returns-in-Ok-compare-clause-told : goal.returns-in-Ok-compare-clause-told
returns-in-Ok-compare-clause-told c =
    let coarse = c.args.coarse.now.view.core in
    let d = pairs_of c.args.fine.now.full in
    let x = c.in-Ok-compare.told in
    IfOk-weaker c.with_told.result _ _
    (λ text is. told c.in-Ok-compare.ensures.coarser d c.grammar.ensures.safe.full.full x
    (subst (λ (a : AcceptedValue). IsCompared a.grammar.core coarse d x) c.requires.same c.in-Ok-compare.ensures.compared) refl
    (is ∙ ap (λ (h : HeldGrammar). compared_text h.core x) c.grammar.ensures.grammar))
    c.with_told.ensures.told

pub returns-in-Ok-compare-clause-stops : goal.returns-in-Ok-compare-clause-stops
returns-in-Ok-compare-clause-stops c = IfErr-weaker c.with_told.result _ _ (λ e wants. inl wants) c.with_told.ensures.memory

pub returns-in-Err-clause-stops : goal.returns-in-Err-clause-stops
returns-in-Err-clause-stops c =
    let fault = c.in-Err.fault in
    let e = end_of c.not_compared.result in
    refused_two c.args.fine.now c.args.coarse.now c.args.fine.now.accepted.grammar.core fault e c.in-Err.ensures.refused c.not_compared.ensures.memory
    (subst (λ (h : HeldGrammar). (e ≡ NoMemory) ⊎ (e ≡ Refused (codes "coarse") None (compare_text h.core fault))) c.grammar-in-Err.ensures.grammar c.not_compared.ensures.refused)
