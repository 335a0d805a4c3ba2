-- Laws of what is listed.
use Rattle.std.specs.Prelude.{◌↔◌, ℕ, List, codes}
use Rattle.wf_model.specs.Lists.{IsIn, AllDiffer}
use Rattle.wf_model.specs.Grammar.{Grammar}
use Rattle.wf_model.specs.View.{View}
use Rattle.label_model.specs.Labels.{Label}
use Rattle.label_model.specs.Files.{Entry, names_of_entries}
use Rattle.wf_query.specs.Answers.{HasEntry, IsAnswerText}
use Rattle.wf_lineage.specs.declared.direction.Direction.{Direction}
use Rattle.wf_lineage.specs.declared.direction.Direction.TheVariants.{Upstream, Downstream}
use Rattle.wf_lineage.specs.Listed.{IsListed, AreListed}

-- an entry has the name of an item, and these are the names of the entries that are listed for the item of its label
abbrev pub AreListedFor : Grammar → View → Direction → List Entry → List ℕ → List (List ℕ) → Type 0
AreListedFor g u d entries item names = (y : Label) × HasEntry g entries item y × AreListed (IsListed g u d y) entries names

-- Let the names of the entries differ. Upstream of an item another one is listed exactly if a query of the other and the item is answered yes; downstream, exactly if one of the item and the other is
abbrev pub AnswersYesLaw : Type 0
AnswersYesLaw =
    (g : Grammar) (u : View) (entries : List Entry) → AllDiffer (names_of_entries entries) → (item other : List ℕ) (names : List (List ℕ)) →
    record {
      upstream : AreListedFor g u Upstream entries item names → IsIn other names ↔ IsAnswerText g u entries other item (codes "yes");
      downstream : AreListedFor g u Downstream entries item names → IsIn other names ↔ IsAnswerText g u entries item other (codes "yes");
    }

-- One item is listed upstream of another exactly if the other is listed downstream of the one
abbrev pub MirrorLaw : Type 0
MirrorLaw =
    (g : Grammar) (u : View) (entries : List Entry) → AllDiffer (names_of_entries entries) → (one other : List ℕ) (lineage impact : List (List ℕ)) →
    AreListedFor g u Upstream entries other lineage → AreListedFor g u Downstream entries one impact → IsIn one lineage ↔ IsIn other impact
