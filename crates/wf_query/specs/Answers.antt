-- The answers to queries from the entries of a label file.
use Rattle.std.specs.Prelude.{◌≡◌, ◌⊎◌, ℕ, List, codes}
use Rattle.wf_model.specs.Lists.{IsIn}
use Rattle.wf_model.specs.Grammar.{Grammar}
use Rattle.wf_model.specs.View.{View}
use Rattle.bit_pack.specs.Bits.{Holds}
use Rattle.label_model.specs.Labels.{Label, IsLabel, label_bits}
use Rattle.label_model.specs.Files.{Entry, names_of_entries}
use Rattle.verdict_model.specs.declared.verdict.Verdict.{Verdict}
use Rattle.verdict_model.specs.declared.verdict.Verdict.TheVariants.{Hidden1, Hidden2, Clash as ClashTold, Yes as YesTold, No as NoTold}
use Rattle.verdict_model.specs.Verdicts.{IsVerdict}
use Rattle.wf_query.specs.declared.answers.Answer.{Answer}
use Rattle.wf_query.specs.declared.answers.Answer.TheVariants.{Unknown, Hidden, Clash, Yes, No}

-- an entry of this name has the bytes of this label of the grammar
abbrev pub HasEntry : Grammar → List Entry → List ℕ → Label → Type 0
HasEntry g entries name l = (e : Entry) × IsIn e entries × (e.name ≡ name) × IsLabel g l × Holds e.label (label_bits l)

-- no entry has this name
abbrev pub HasNoEntry : List Entry → List ℕ → Type 0
HasNoEntry entries name = IsIn name (names_of_entries entries) → ⊥

-- the labels of two entries have this verdict under the view
pub record AreDecided (g : Grammar) (u : View) (entries : List Entry) (first second : List ℕ) (v : Verdict) : Type 0 where
  pub x : Label
  pub y : Label
  pub first_entry : HasEntry g entries first x
  pub second_entry : HasEntry g entries second y
  pub verdict : IsVerdict g u x y v

-- the answer that a verdict is: it is not told which of the two items is hidden
abbrev pub answer_of : Verdict → Answer
answer_of Hidden1 = Hidden
answer_of Hidden2 = Hidden
answer_of ClashTold = Clash
answer_of YesTold = Yes
answer_of NoTold = No

-- a name of the two has no entry
abbrev pub LacksEntry : List Entry → List ℕ → List ℕ → Type 0
LacksEntry entries first second = HasNoEntry entries first ⊎ HasNoEntry entries second

-- The answer to a query of two names: unknown where either has no entry, and else that of the verdict on the labels of the two entries
abbrev pub IsAnswerOfLabels : Grammar → View → List Entry → List ℕ → List ℕ → Answer → Type 0
IsAnswerOfLabels g u entries first second a =
    (LacksEntry entries first second × (a ≡ Unknown)) ⊎
    ((v : Verdict) × AreDecided g u entries first second v × (a ≡ answer_of v))

-- the word of an answer
abbrev pub answer_text : Answer → List ℕ
answer_text Unknown = codes "unknown"
answer_text Hidden = codes "hidden"
answer_text Clash = codes "clash"
answer_text Yes = codes "yes"
answer_text No = codes "no"

-- the word of the answer to a query
abbrev pub IsAnswerText : Grammar → View → List Entry → List ℕ → List ℕ → List ℕ → Type 0
IsAnswerText g u entries first second text = (a : Answer) × IsAnswerOfLabels g u entries first second a × (text ≡ answer_text a)
