-- What `decide` writes of two labels.
use Rattle.std.specs.Prelude.{◌≡◌, ℕ, List, [], ◌++◌, None, codes}
use Rattle.bit_pack.specs.Bits.{Holds}
use Rattle.wf_model.specs.Grammar.{Grammar}
use Rattle.wf_model.specs.View.{View as ViewOf}
use Rattle.label_model.specs.Labels.{Label, label_bits, IsLabel}
use Rattle.label_model.specs.Reading.{IsLabelBytes}
use Rattle.verdict_model.specs.declared.verdict.Verdict.{Verdict}
use Rattle.verdict_model.specs.Verdicts.{IsVerdict}
use Rattle.label_words.specs.Verdicts.{verdict_text}
use Rattle.wf_message.specs.Endings.{End, Done, Refused}

-- the bytes are those of this label of the grammar
abbrev pub AreOfLabel : Grammar → List ℕ → Label → Type 0
AreOfLabel g bytes l = IsLabel g l × Holds bytes (label_bits l)

-- Two labels of a grammar under a view: the first is tried before the second, and where both are labels the words of their verdict are written
pub data DecidesLabels (g : Grammar) (u : ViewOf) (first second : List ℕ) (ending : End) (text : List ℕ) : Type 0 where
  first_malformed : (IsLabelBytes g first → ⊥) → ending ≡ Refused (codes "label 1") None (codes "Malformed") → text ≡ [] → DecidesLabels g u first second ending text
  second_malformed : IsLabelBytes g first → (IsLabelBytes g second → ⊥) → ending ≡ Refused (codes "label 2") None (codes "Malformed") → text ≡ [] → DecidesLabels g u first second ending text
  decided : (x y : Label) → AreOfLabel g first x → AreOfLabel g second y → (v : Verdict) → IsVerdict g u x y v → ending ≡ Done → text ≡ verdict_text v ++ codes "\n" → DecidesLabels g u first second ending text
