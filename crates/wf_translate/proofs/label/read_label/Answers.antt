use Rattle.std.proofs.Common.{◌≡◌, ◌∷◌, refl, sym, ap, ◌∙◌, subst}
use Rattle.std.specs.Prelude.{MatchOption, IfOk, IfErr}
use Rattle.package_model.specs.Translating.{Malformed, IsTranslation, ReadsInside, ReadsOutside}
use Rattle.wf_label.specs.Values.{label_of}
use Rattle.wf_loops.specs.Looped.{loop_in}
use Rattle.wf_translate.specs.declared.fault.PackLabelFault.TheVariants.{Malformed as MalformedHeld}
use Rattle.wf_translate.proofs.Options.{at_error}
use Rattle.wf_translate.proofs.Whole.{nothing_malformed}
use Rattle.wf_translate.proofs.label.read_label.Goals as goal

pub returns-in_err-of_edge-clause-malformed : goal.returns-in_err-of_edge-clause-malformed
returns-in_err-of_edge-clause-malformed c =
    let l = c.args.looped.now in
    let g = l.accepted.grammar.core in
    at_error _ c.from_residual.result (λ _ _ _. subst (λ z. IsTranslation g (loop_in l.steps) z Malformed) (sym (c.in_err-of_edge.ensures.ended refl)) (nothing_malformed g (loop_in l.steps)))

pub returns-then-of_edge-clause-read : goal.returns-then-of_edge-clause-read
returns-then-of_edge-clause-read c =
    let l = c.args.looped.now in
    let g = l.accepted.grammar.core in
    let loop = loop_in l.steps in
    subst (λ z. IfOk c.read_edge_label.result (λ o. MatchOption o (ReadsOutside g loop z) (λ k. ReadsInside g loop z (label_of k))))
    (sym (c.in_ok-of_edge.ensures.bit ∙ ap (λ b. b ∷ c.read_bit.new.reader.left) c.if-of_edge.true)) c.read_edge_label.ensures.read

pub returns-then-of_edge-clause-malformed : goal.returns-then-of_edge-clause-malformed
returns-then-of_edge-clause-malformed c =
    let l = c.args.looped.now in
    let g = l.accepted.grammar.core in
    let loop = loop_in l.steps in
    subst (λ z. IfErr c.read_edge_label.result (λ f. f ≡ MalformedHeld → IsTranslation g loop z Malformed))
    (sym (c.in_ok-of_edge.ensures.bit ∙ ap (λ b. b ∷ c.read_bit.new.reader.left) c.if-of_edge.true)) c.read_edge_label.ensures.malformed

pub returns-in_err-label-clause-malformed : goal.returns-in_err-label-clause-malformed
returns-in_err-label-clause-malformed c =
    let l = c.args.looped.now in
    let g = l.accepted.grammar.core in
    at_error _ c.from_residual-in_err-label.result
    (λ _ _ _. subst (λ z. IsTranslation g (loop_in l.steps) z Malformed) (sym (c.in_ok-of_edge.ensures.bit ∙ ap (λ b. b ∷ c.read_bit.new.reader.left) c.if-of_edge.false)) (c.in_err-label.ensures.malformed refl))

pub returns-clause-read : goal.returns-clause-read
returns-clause-read c =
    let l = c.args.looped.now in
    let g = l.accepted.grammar.core in
    subst (λ z. ReadsInside g (loop_in l.steps) z (label_of c.in_ok-label.label)) (sym (c.in_ok-of_edge.ensures.bit ∙ ap (λ b. b ∷ c.read_bit.new.reader.left) c.if-of_edge.false)) c.in_ok-label.ensures.read
