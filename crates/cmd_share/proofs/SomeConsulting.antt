-- The bytes of a package tell one, or are refused, and two labels over a package have an outcome.
use Rattle.std.proofs.Common.{◌⊎◌, ℕ, List, [], ◌++◌, refl, inl, inr, ⊎_elim}
use Rattle.std.specs.Prelude.{codes, None}
use Rattle.bit_pack.specs.Bits.{bits_of}
use Rattle.wf_model.specs.DefaultView.{default_view}
use Rattle.wf_form.specs.Forming.{grammar_of}
use Rattle.label_model.specs.Labels.{Label}
use Rattle.label_words.specs.Verdicts.{verdict_text}
use Rattle.verdict_model.specs.declared.verdict.Verdict.TheVariants.{Hidden1, Hidden2}
use Rattle.verdict_model.proofs.SomeVerdict.{some_verdict}
use Rattle.package_model.specs.Translating.{Translation, Inside, Outside, Malformed, TranslatesTo}
use Rattle.package_model.proofs.InsideLabels.{inside_label_law}
use Rattle.wf_translate.proofs.SomeTranslation.{some_translation}
use Rattle.package_file.specs.Packed.{said_entries}
use Rattle.wf_model.proofs.DefaultView.{default_is_default}
use Rattle.package_file.proofs.DefaultViews.{default_composites}
use Rattle.package_file.specs.FaultText.{pack_name}
use Rattle.package_file.proofs.PackageOrNot.{package_or_fault_law}
use Rattle.wf_loops.proofs.GoodOrNot.{some_loops}
use Rattle.wf_message.specs.Endings.{Done, Refused}
use Rattle.wf_stage.specs.Outcomes.{HasOutcome}
use Rattle.cmd_share.specs.PackageTold.{PackageValue, TellsPackage, RefusesPackage}
use Rattle.cmd_share.proofs.PackageValues.{refused_by}
use Rattle.cmd_share.specs.Consulted.{ConsultsLabels, first_malformed, second_malformed, consulted}
use Rattle.cmd_share.proofs.GoodPackages.{IsGood}

-- the bytes of a package tell one, or are refused
pub package_or_refusal : (bytes : List ℕ) → ((p : PackageValue) × TellsPackage bytes p) ⊎ ((fault : List ℕ) × RefusesPackage bytes fault)
package_or_refusal bytes = ⊎_elim
    (λ x.
    let g = grammar_of x.0.grammar in
    let l = some_loops g x.2.grammar.formed.well_formed (said_entries x.0.loops) x.2.loops in
    inl (record { grammar = g; loops = l.0 }, record { parts = x.0; read = x.1; good = x.2; grammar = refl; loops = l.1 }))
    (λ f. inr (pack_name f.0, refused_by bytes f.0 f.1 f.2))
    (package_or_fault_law bytes)

module _ (p : PackageValue) (good : IsGood p) (a b : List ℕ) where
  -- two labels over a package have an outcome
  pub some_consulting : HasOutcome (ConsultsLabels p a b)
  some_consulting = by (comes a).0 (comes a).1 (comes b).0 (comes b).1
    where
      comes : (bytes : List ℕ) → (t : Translation) × TranslatesTo p.grammar p.loops bytes t
      comes bytes = some_translation p.grammar good.entries p.loops good.good good.loops (bits_of bytes)

      by : (t : Translation) → TranslatesTo p.grammar p.loops a t → (s : Translation) → TranslatesTo p.grammar p.loops b s → HasOutcome (ConsultsLabels p a b)
      by Malformed x s y = (Refused (codes "label 1") None (codes "Malformed"), [], first_malformed x refl refl)
      by Outside x Malformed y = (Refused (codes "label 2") None (codes "Malformed"), [], second_malformed (Outside, x, λ e. (cc)) y refl refl)
      by (Inside k) x Malformed y = (Refused (codes "label 2") None (codes "Malformed"), [], second_malformed (Inside k, x, λ e. (cc)) y refl refl)
      by Outside x Outside y = (Done, verdict_text Hidden1 ++ codes "\n", consulted Hidden1 (record { first = Outside; second = Outside; first_is = x; second_is = y; told = refl }) refl refl)
      by Outside x (Inside l) y = (Done, verdict_text Hidden1 ++ codes "\n", consulted Hidden1 (record { first = Outside; second = Inside l; first_is = x; second_is = y; told = refl }) refl refl)
      by (Inside k) x Outside y = (Done, verdict_text Hidden2 ++ codes "\n", consulted Hidden2 (record { first = Inside k; second = Outside; first_is = x; second_is = y; told = refl }) refl refl)
      by (Inside k) x (Inside l) y =
          let g = p.grammar in
          let of_g : (bytes : List ℕ) (m : Label) → TranslatesTo g p.loops bytes (Inside m) → _ = λ bytes m h. inside_label_law g good.entries p.loops good.formed good.linear good.good good.loops (bits_of bytes) m h in
          let v = some_verdict g (default_view g) good.formed good.proper (default_composites g (default_view g) (default_is_default g)) good.safe k l (of_g a k x) (of_g b l y) in
          (Done, verdict_text v.0 ++ codes "\n", consulted v.0 (record { first = Inside k; second = Inside l; first_is = x; second_is = y; told = v.1 }) refl refl)
