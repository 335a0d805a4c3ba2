-- What `consult` writes of two labels.
use Rattle.std.specs.Prelude.{◌≡◌, ◌≢◌, ℕ, List, [], ◌++◌, None, codes}
use Rattle.verdict_model.specs.declared.verdict.Verdict.{Verdict}
use Rattle.label_words.specs.Verdicts.{verdict_text}
use Rattle.package_model.specs.Translating.{Translation, Malformed, TranslatesTo}
use Rattle.package_model.specs.Consulting.{IsConsulted}
use Rattle.wf_message.specs.Endings.{End, Done, Refused}
use Rattle.cmd_share.specs.PackageTold.{PackageValue}

-- the bytes are no label over the package
abbrev pub IsMalformed : PackageValue → List ℕ → Type 0
IsMalformed p bytes = TranslatesTo p.grammar p.loops bytes Malformed

-- the bytes are a label over the package, which may be outside
abbrev pub IsLabelOver : PackageValue → List ℕ → Type 0
IsLabelOver p bytes = (t : Translation) × TranslatesTo p.grammar p.loops bytes t × (t ≢ Malformed)

-- Two labels over a package: the first is tried before the second, and where both are labels the words of their verdict are written
pub data ConsultsLabels (p : PackageValue) (first second : List ℕ) (ending : End) (text : List ℕ) : Type 0 where
  first_malformed : IsMalformed p first → ending ≡ Refused (codes "label 1") None (codes "Malformed") → text ≡ [] → ConsultsLabels p first second ending text
  second_malformed : IsLabelOver p first → IsMalformed p second → ending ≡ Refused (codes "label 2") None (codes "Malformed") → text ≡ [] → ConsultsLabels p first second ending text
  consulted : (v : Verdict) → IsConsulted p.grammar p.loops first second v → ending ≡ Done → text ≡ verdict_text v ++ codes "\n" → ConsultsLabels p first second ending text
