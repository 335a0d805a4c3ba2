-- Two labels have one verdict by a package, and `consult` has one end and one text for them.
use Rattle.std.proofs.Common.{◌≡◌, ◌≢◌, ℕ, List, ◌++◌, sym, ap, ◌∙◌, subst}
use Rattle.std.specs.Prelude.{codes}
use Rattle.bit_pack.specs.Bits.{bits_of}
use Rattle.wf_model.specs.Grammar.{Grammar}
use Rattle.wf_model.specs.DefaultView.{default_view}
use Rattle.label_words.specs.Verdicts.{verdict_text}
use Rattle.verdict_model.specs.declared.verdict.Verdict.{Verdict}
use Rattle.verdict_model.proofs.OneVerdict.{one_verdict}
use Rattle.package_model.specs.Translating.{Translation, Inside, Outside, Malformed, TranslatesTo}
use Rattle.package_model.specs.Consulting.{IsTold, IsConsulted}
use Rattle.package_model.proofs.ReadOnce.{one_translation_law}
use Rattle.wf_stage.specs.Outcomes.{HasOneOutcome, EndsInDone}
use Rattle.cmd_share.specs.PackageTold.{PackageValue}
use Rattle.cmd_share.specs.Consulted.{IsLabelOver, ConsultsLabels, first_malformed, second_malformed, consulted}
use Rattle.cmd_share.proofs.GoodPackages.{IsGood}

-- two translations tell one verdict
one_told : (g : Grammar) (t s : Translation) (v w : Verdict) → IsTold g t s v → IsTold g t s w → v ≡ w
one_told g Malformed s v w h k = absurd h
one_told g Outside Malformed v w h k = absurd h
one_told g Outside Outside v w h k = h ∙ sym k
one_told g Outside (Inside l) v w h k = h ∙ sym k
one_told g (Inside x) Malformed v w h k = absurd h
one_told g (Inside x) Outside v w h k = h ∙ sym k
one_told g (Inside x) (Inside y) v w h k = one_verdict g (default_view g) x y v w h k

-- of a malformed label nothing is told
first_told : (g : Grammar) (t s : Translation) (v : Verdict) → IsTold g t s v → t ≢ Malformed
first_told g Malformed s v h is = absurd h
first_told g Outside s v h is = absurd (cc)
first_told g (Inside l) s v h is = absurd (cc)

second_told : (g : Grammar) (t s : Translation) (v : Verdict) → IsTold g t s v → s ≢ Malformed
second_told g Malformed s v h is = absurd h
second_told g Outside Malformed v h is = absurd h
second_told g Outside Outside v h is = absurd (cc)
second_told g Outside (Inside l) v h is = absurd (cc)
second_told g (Inside x) Malformed v h is = absurd h
second_told g (Inside x) Outside v h is = absurd (cc)
second_told g (Inside x) (Inside y) v h is = absurd (cc)

module _ (p : PackageValue) (good : IsGood p) (a b : List ℕ) where
  -- bytes come to one thing over a package
  comes_to_one : (bytes : List ℕ) (t s : Translation) → TranslatesTo p.grammar p.loops bytes t → TranslatesTo p.grammar p.loops bytes s → t ≡ s
  comes_to_one bytes t s = one_translation_law p.grammar good.entries p.loops good.good good.loops (bits_of bytes) t s

  -- a label over a package is not malformed
  not_malformed : (bytes : List ℕ) → IsLabelOver p bytes → TranslatesTo p.grammar p.loops bytes Malformed → ⊥
  not_malformed bytes l m = l.2 (comes_to_one bytes l.0 Malformed l.1 m)

  pub one_consulted : (v w : Verdict) → IsConsulted p.grammar p.loops a b v → IsConsulted p.grammar p.loops a b w → v ≡ w
  one_consulted v w h k =
      let x = comes_to_one a k.first h.first k.first_is h.first_is in
      let y = comes_to_one b k.second h.second k.second_is h.second_is in
      one_told p.grammar h.first h.second v w h.told (subst (λ s. IsTold p.grammar h.first s w) y (subst (λ t. IsTold p.grammar t k.second w) x k.told))

  first_over : (v : Verdict) → IsConsulted p.grammar p.loops a b v → IsLabelOver p a
  first_over v h = (h.first, h.first_is, first_told p.grammar h.first h.second v h.told)

  second_over : (v : Verdict) → IsConsulted p.grammar p.loops a b v → IsLabelOver p b
  second_over v h = (h.second, h.second_is, second_told p.grammar h.first h.second v h.told)

  -- two labels have one end and one text
  pub one_consulting : HasOneOutcome (ConsultsLabels p a b)
  one_consulting d e t s (first_malformed m q is) (first_malformed n r js) = (q ∙ sym r, is ∙ sym js)
  one_consulting d e t s (first_malformed m q is) (second_malformed l n r js) = absurd (not_malformed a l m)
  one_consulting d e t s (first_malformed m q is) (consulted w k r js) = absurd (not_malformed a (first_over w k) m)
  one_consulting d e t s (second_malformed l m q is) (first_malformed n r js) = absurd (not_malformed a l n)
  one_consulting d e t s (second_malformed l m q is) (second_malformed k n r js) = (q ∙ sym r, is ∙ sym js)
  one_consulting d e t s (second_malformed l m q is) (consulted w k r js) = absurd (not_malformed b (second_over w k) m)
  one_consulting d e t s (consulted v h q is) (first_malformed n r js) = absurd (not_malformed a (first_over v h) n)
  one_consulting d e t s (consulted v h q is) (second_malformed l n r js) = absurd (not_malformed b (second_over v h) n)
  one_consulting d e t s (consulted v h q is) (consulted w k r js) =
      (q ∙ sym r, is ∙ (ap (λ (x : Verdict). verdict_text x ++ codes "\n") (one_consulted v w h k) ∙ sym js))

  -- of two labels over a package it ends in that all is done
  pub good_consulting : IsLabelOver p a → IsLabelOver p b → EndsInDone (ConsultsLabels p a b)
  good_consulting x y e t (first_malformed m q is) = absurd (not_malformed a x m)
  good_consulting x y e t (second_malformed l m q is) = absurd (not_malformed b y m)
  good_consulting x y e t (consulted v h q is) = q
